use Rattle.cf_change.proofs.Leaving.{stays_forward}
use Rattle.cf_change.proofs.laws.shape_stays_forward.Goals as goal

pub returns : goal.returns
returns c = stays_forward
