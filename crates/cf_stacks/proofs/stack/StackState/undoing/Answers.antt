use Rattle.std.proofs.Common.{IfSome, Option, subst, sym}
use Rattle.cf_effect.specs.declared.undoing.Undoing.{Undoing}
use Rattle.cf_effect.specs.Undoing.{IsUndoing}
use Rattle.cf_stacks.specs.Room.{StackStanding}
use Rattle.cf_stacks.proofs.stack.StackState.undoing.Goals as goal

pub returns : goal.returns
returns c =
    subst (λ (o : Option Undoing). IfSome o (IsUndoing c.args.self.now.stack)) (sym c.as_ref.ensures.value)
    (subst (λ (v : StackStanding). IfSome c.self.inside.undoing (IsUndoing v.stack)) c.self.view_is c.self.invariant.undoing)
