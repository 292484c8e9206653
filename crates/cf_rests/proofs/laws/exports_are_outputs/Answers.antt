use Rattle.cf_rests.proofs.Rested.{exports_of_outputs}
use Rattle.cf_rests.proofs.laws.exports_are_outputs.Goals as goal

pub returns : goal.returns
returns c = exports_of_outputs
