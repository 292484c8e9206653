use Rattle.cf_desired.proofs.KnownStays.{known_kept}
use Rattle.cf_desired.proofs.laws.known_stays.Goals as goal

pub returns : goal.returns
returns c = known_kept
