use Rattle.cf_prepare.proofs.Working.{finished}
use Rattle.cf_prepare.proofs.work.finish.Goals as goal

pub returns-in-Ok : goal.returns-in-Ok
returns-in-Ok c =
    finished c.args.held.now c.args.source.now c.args.found c.args.plan.now c.in-Ok.imports c.finish_with.result c.in-Ok.ensures c.finish_with.ensures
