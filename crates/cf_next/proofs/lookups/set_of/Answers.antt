use Rattle.cf_next.proofs.LookingUp.{told_set}
use Rattle.cf_next.proofs.lookups.set_of.Goals as goal

pub returns : goal.returns
returns c = told_set c.args.names.now c.joined.result c.joined.ensures
