use Rattle.std.proofs.Common.{subst}
use Rattle.cf_next.specs.Rollback.{IsTaken}
use Rattle.cf_next.proofs.chosen.next_on.Goals as goal

pub returns-in-Some : goal.returns-in-Some
returns-in-Some c = λ stage in_stage.
    subst (IsTaken c.args.out.now c.args.world.now.world c.args.stack.now.stack) c.in-Some.is c.in_ok-deletion.ensures c.args.schemas.now
    c.args.name.now stage in_stage

pub returns-in-Some-2 : goal.returns-in-Some-2
returns-in-Some-2 c = λ stage in_stage.
    subst (IsTaken c.args.out.now c.args.world.now.world c.args.stack.now.stack) c.in-Some-2.is c.in_ok-restore.ensures c.args.schemas.now
    c.args.name.now stage in_stage

pub returns-in-Some-3 : goal.returns-in-Some-3
returns-in-Some-3 c = λ stage in_stage.
    subst (IsTaken c.args.out.now c.args.world.now.world c.args.stack.now.stack) c.in-Some-3.is c.in_ok-create.ensures c.args.schemas.now
    c.args.name.now stage in_stage
