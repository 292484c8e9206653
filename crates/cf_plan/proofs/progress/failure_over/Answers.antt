use Rattle.cf_plan.proofs.PlanTerms.{over_now}
use Rattle.cf_plan.proofs.progress.failure_over.Goals as goal

pub done_by-requires-clause-terms : goal.done_by-requires-clause-terms
done_by-requires-clause-terms c = over_now c.args.stack.now.stack c.args.now.now c.requires.now

pub failure_by-requires-clause-terms : goal.failure_by-requires-clause-terms
failure_by-requires-clause-terms c = over_now c.args.stack.now.stack c.args.now.now c.requires.now
