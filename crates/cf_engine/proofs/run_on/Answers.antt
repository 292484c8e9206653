use Rattle.cf_engine.specs.Program.{program_schemas, unused_lanes}
use Rattle.cf_engine.proofs.Made.{made_agrees}
use Rattle.cf_engine.proofs.run_on.Goals as goal

pub returns-clause-runs : goal.returns-clause-runs
returns-clause-runs g c = record {
  ran = c.cfstack.ensures.answered;
  agree = c.cfstack.ensures.agree;
  new_agree = λ tells synced new. c.cfstack.ensures.agree tells program_schemas unused_lanes
      (made_agrees _ _ c.args.disk c.args.lanes.items synced new);
}
