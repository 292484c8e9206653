use Rattle.cf_prepare.proofs.Working.{plan_flawless, work_clash, work_err, work_none, works_so}
use Rattle.cf_prepare.proofs.work.work_by.Goals as goal

pub returns-in-Err : goal.returns-in-Err
returns-in-Err c =
    work_err c.args.place.now.kinds.now c.args.place.now.world.now.world c.args.place.now.name.now c.args.place.now.schemas.now c.args.held.now c.args.source.now c.args.found c.args.plan.now
    c.requires.found c.requires.plan c.in-Err.fault c.in-Err.ensures

pub finish-requires-clause-flawless : goal.finish-requires-clause-flawless
finish-requires-clause-flawless c =
    plan_flawless c.args.place.now.kinds.now c.args.place.now.world.now.world c.args.place.now.name.now c.args.place.now.schemas.now c.args.held.now c.args.source.now c.args.found c.args.plan.now
    c.requires.found c.requires.plan
    (work_none c.args.place.now.kinds.now c.args.place.now.world.now.world c.args.place.now.name.now c.args.place.now.schemas.now c.args.held.now c.args.source.now c.args.found c.args.plan.now
    c.requires.found c.requires.plan tt c.in-Ok.ensures)

pub finish-requires-clause-clash : goal.finish-requires-clause-clash
finish-requires-clause-clash c =
    work_clash c.args.place.now.kinds.now c.args.place.now.world.now.world c.args.place.now.name.now c.args.place.now.schemas.now c.args.held.now c.args.source.now c.args.found c.args.plan.now
    c.requires.found c.requires.plan
    (work_none c.args.place.now.kinds.now c.args.place.now.world.now.world c.args.place.now.name.now c.args.place.now.schemas.now c.args.held.now c.args.source.now c.args.found c.args.plan.now
    c.requires.found c.requires.plan tt c.in-Ok.ensures)

pub returns-in_ok-worked-in-Ok : goal.returns-in_ok-worked-in-Ok
returns-in_ok-worked-in-Ok c = (
  (work_none c.args.place.now.kinds.now c.args.place.now.world.now.world c.args.place.now.name.now c.args.place.now.schemas.now c.args.held.now c.args.source.now c.args.found c.args.plan.now
      c.requires.found c.requires.plan tt c.in-Ok.ensures),
  works_so c.args.place.now.kinds.now c.args.place.now.world.now.world c.args.place.now.name.now c.args.place.now.schemas.now c.args.held.now c.args.source.now c.args.found c.args.plan.now
      c.requires.found c.requires.plan c.in_ok-worked-in-Ok.worked c.in_ok-worked-in-Ok.ensures,
)
