use Rattle.cf_rests.proofs.Rested.{exports_rest}
use Rattle.cf_rests.proofs.laws.exports_matter.Goals as goal

pub returns : goal.returns
returns c = exports_rest
