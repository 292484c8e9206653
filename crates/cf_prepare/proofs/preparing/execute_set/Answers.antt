use Rattle.cf_prepare.proofs.Working.{execute_err, execute_ok}
use Rattle.cf_prepare.proofs.preparing.execute_set.Goals as goal

pub returns-in-Err : goal.returns-in-Err
returns-in-Err c =
    execute_err c.args.schemas.now c.args.world.now.world c.args.name.now c.args.set.now.source c.args.number c.args.set.now.rows c.in_ok-kinds.kinds c.in-Err.fault c.in_ok-kinds.ensures c.in-Err.ensures

pub returns-in-Ok : goal.returns-in-Ok
returns-in-Ok c =
    execute_ok c.args.schemas.now c.args.world.now.world c.args.name.now c.args.set.now.source c.args.number c.args.set.now.rows c.in_ok-kinds.kinds c.in-Ok.worked c.execute_worked.result c.in_ok-kinds.ensures
    c.in-Ok.ensures c.execute_worked.ensures
