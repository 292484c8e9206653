use Rattle.std.proofs.Common.{◌≡◌, IfOk, Some, ap, sym, subst}
use Rattle.std.specs.List.{slice_get}
use Rattle.cf_desired.specs.Work.{Member}
use Rattle.cf_effect.specs.Findings.{AreFindings, FindsAt}
use Rattle.cf_effect.specs.Layout.{source_members}
use Rattle.cf_effect.specs.World.{StackState}
use Rattle.cf_stacks.specs.Room.{StackStanding}
use Rattle.cf_stacks.proofs.stack.StackState.find_at.Goals as goal

pub find_at-requires : goal.find_at-requires
find_at-requires c = subst (λ (s : StackState). AreFindings s c.args.findings.now) (sym (ap (λ (v : StackStanding). v.stack) c.self.view_is)) c.requires

pub returns : goal.returns
returns c =
    subst (λ (s : StackState). IfOk c.find_at.result (λ found. (m : Member) → slice_get (source_members s) c.args.at ≡ Some m → FindsAt s m.path found))
    (ap (λ (v : StackStanding). v.stack) c.self.view_is) c.find_at.ensures
