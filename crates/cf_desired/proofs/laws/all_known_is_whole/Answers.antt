use Rattle.cf_desired.proofs.AllKnown.{known_whole}
use Rattle.cf_desired.proofs.laws.all_known_is_whole.Goals as goal

pub returns : goal.returns
returns c = known_whole
