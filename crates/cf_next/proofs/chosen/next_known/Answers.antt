use Rattle.std.proofs.Common.{subst}
use Rattle.cf_next.specs.Opens.{IsTakenBy}
use Rattle.cf_next.proofs.chosen.next_known.Goals as goal

pub returns-in-Some : goal.returns-in-Some
returns-in-Some c = λ stage in_stage.
    subst (IsTakenBy c.args.out.now c.args.world.now.world c.args.stack.now.stack c.args.schemas.now c.args.name.now) c.in-Some.is c.in_ok-call.ensures
    stage in_stage
