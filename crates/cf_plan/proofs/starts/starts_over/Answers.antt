use Rattle.cf_plan.specs.Starts.{AreRequests, starts_by}
use Rattle.cf_plan.proofs.Begins.{are_starts_by, told}
use Rattle.cf_plan.proofs.starts.starts_over.Goals as goal

pub returns : goal.returns
returns c =
    told c.starts_by.result (starts_by c.args.schemas.now c.args.stack.now.stack c.args.terms.now c.args.now.now c.args.done.now)
    (AreRequests c.args.schemas.now c.args.stack.now.stack) c.starts_by.ensures
    (are_starts_by c.args.schemas.now c.args.stack.now.stack c.args.terms.now c.args.now.now c.args.done.now c.requires.terms c.requires.now c.requires.done)
