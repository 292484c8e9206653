use Rattle.cf_prepare.proofs.Working.{executes_found}
use Rattle.cf_prepare.proofs.preparing.execute.Goals as goal

pub returns-in-Some : goal.returns-in-Some
returns-in-Some c =
    executes_found c.args.schemas.now c.args.world.now.world c.args.name.now c.args.number c.in-Some.set.now c.execute_set.result c.in_ok-test_there.ensures.0 c.in_ok-test_deploys.ensures.0
    c.in-Some.ensures c.execute_set.ensures
