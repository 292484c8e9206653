use Rattle.std.proofs.Common.{sym, subst, Some}
use Rattle.cf_next.specs.declared.step.Next.{Next}
use Rattle.cf_next.specs.Joining.{IsLastBy}
use Rattle.cf_next.proofs.Ended.{turn_last}
use Rattle.cf_next.proofs.last.last_by.Goals as goal

pub returns-in_ok-turn_by-in-Some : goal.returns-in_ok-turn_by-in-Some
returns-in_ok-turn_by-in-Some c =
    subst (λ (n : Next). IsLastBy c.args.world.now.world c.args.stack.now.stack c.args.open.now (Some n)) (sym c.in_ok-turn_by-in-Some.ensures)
    (turn_last c.args.world.now.world c.args.stack.now.stack c.args.open.now c.in-Some.turn c.in-Some.is)
