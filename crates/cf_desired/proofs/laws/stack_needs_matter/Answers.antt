use Rattle.cf_desired.proofs.StackNeeds.{stack_needs_suffice}
use Rattle.cf_desired.proofs.laws.stack_needs_matter.Goals as goal

pub returns : goal.returns
returns c = stack_needs_suffice
