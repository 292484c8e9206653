use Rattle.std.proofs.Common.{◌∙◌}
use Rattle.cf_next.proofs.FactsTold.{told_open}
use Rattle.cf_next.proofs.facts.open_paths.Goals as goal

pub returns : goal.returns
returns c = told_open c.args.stack.now.stack c.as_slice.result.now c.opened_at.result (c.as_slice.ensures.value ∙ c.tokens.ensures) c.opened_at.ensures
