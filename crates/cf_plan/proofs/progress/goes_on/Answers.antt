use Rattle.cf_plan.proofs.Causing.{goes_by}
use Rattle.cf_plan.proofs.progress.goes_on.Goals as goal

pub returns : goal.returns
returns c =
    goes_by c.args.schemas.now c.args.name.now c.args.world.now.world c.args.stack.now.stack c.in_ok-failure.failure c.is_nothing.result c.in_ok-failure.ensures
    c.is_nothing.ensures
