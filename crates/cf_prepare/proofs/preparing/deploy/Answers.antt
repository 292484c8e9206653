use Rattle.cf_prepare.proofs.Working.{deploy_err, deploy_ok}
use Rattle.cf_prepare.proofs.preparing.deploy.Goals as goal

pub returns-in-Err : goal.returns-in-Err
returns-in-Err c =
    deploy_err c.args.schemas.now c.args.world.now.world c.args.name.now c.args.source.now c.in_ok-kinds.kinds c.in-Err.fault c.in_ok-test_deploys.ensures.0 c.in_ok-kinds.ensures c.in-Err.ensures

pub returns-in-Ok : goal.returns-in-Ok
returns-in-Ok c =
    deploy_ok c.args.schemas.now c.args.world.now.world c.args.name.now c.args.source.now c.in_ok-kinds.kinds c.in-Ok.worked c.deploy_worked.result c.in_ok-test_deploys.ensures.0 c.in_ok-kinds.ensures
    c.in-Ok.ensures c.deploy_worked.ensures
