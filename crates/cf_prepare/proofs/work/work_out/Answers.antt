use Rattle.cf_prepare.proofs.Working.{worked_out}
use Rattle.cf_prepare.proofs.work.work_out.Goals as goal

pub returns-in-Ok : goal.returns-in-Ok
returns-in-Ok c =
    worked_out c.args.place.now.kinds.now c.args.place.now.world.now.world c.args.place.now.name.now c.args.place.now.schemas.now c.args.source.now c.in-Ok.proposed c.in_ok-held.held
    c.work_over-worked.result c.in_ok-held.ensures c.in-Ok.ensures c.work_over-worked.ensures
