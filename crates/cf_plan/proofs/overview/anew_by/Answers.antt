use Rattle.cf_plan.proofs.PlanTerms.{over_now}
use Rattle.cf_plan.proofs.overview.anew_by.Goals as goal

pub done_by-requires-clause-terms : goal.done_by-requires-clause-terms
done_by-requires-clause-terms c = over_now c.args.stack.now.stack c.args.now.now c.requires.now

pub starts_over-requires-clause-terms : goal.starts_over-requires-clause-terms
starts_over-requires-clause-terms c = over_now c.args.stack.now.stack c.args.now.now c.requires.now

pub is_all_done-is_done-requires-clause-terms : goal.is_all_done-is_done-requires-clause-terms
is_all_done-is_done-requires-clause-terms c = over_now c.args.stack.now.stack c.args.now.now c.requires.now
