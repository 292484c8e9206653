use Rattle.cf_desired.proofs.NeededKnown.{needed_known}
use Rattle.cf_desired.proofs.laws.needed_is_known.Goals as goal

pub returns : goal.returns
returns c = needed_known
