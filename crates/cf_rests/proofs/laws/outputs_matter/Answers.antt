use Rattle.cf_rests.proofs.Rested.{outputs_rest}
use Rattle.cf_rests.proofs.laws.outputs_matter.Goals as goal

pub returns : goal.returns
returns c = outputs_rest
