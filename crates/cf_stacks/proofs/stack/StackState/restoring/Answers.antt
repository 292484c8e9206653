use Rattle.std.proofs.Common.{IfSome, Option, subst, sym}
use Rattle.cf_effect.specs.declared.restoring.Restoring.{Restoring}
use Rattle.cf_effect.specs.Restoring.{IsRestoring}
use Rattle.cf_stacks.specs.Room.{StackStanding}
use Rattle.cf_stacks.proofs.stack.StackState.restoring.Goals as goal

pub returns : goal.returns
returns c =
    subst (λ (o : Option Restoring). IfSome o (IsRestoring c.args.self.now.stack)) (sym c.as_ref.ensures.value)
    (subst (λ (v : StackStanding). IfSome c.self.inside.restoring (IsRestoring v.stack)) c.self.view_is c.self.invariant.restoring)
