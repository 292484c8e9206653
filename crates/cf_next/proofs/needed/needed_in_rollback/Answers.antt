use Rattle.cf_next.proofs.Needing.{told_rollback}
use Rattle.cf_next.proofs.needed.needed_in_rollback.Goals as goal

pub returns : goal.returns
returns c = told_rollback c.args.stack.now.stack c.ids_of_needed.result c.ids_of_needed.ensures
