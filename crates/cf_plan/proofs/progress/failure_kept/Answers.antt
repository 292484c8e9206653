use Rattle.std.proofs.Common.{sym, ◌∙◌, true≢false}
use Rattle.cf_plan.proofs.progress.failure_kept.Goals as goal

pub failure_on_the_way-requires-clause-to_do : goal.failure_on_the_way-requires-clause-to_do
failure_on_the_way-requires-clause-to_do c all = true≢false (sym (c.is_done.ensures.1 all) ∙ c.if-is_done.false)
