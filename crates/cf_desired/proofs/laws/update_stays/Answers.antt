use Rattle.cf_desired.proofs.ShapeStays.{update_stays}
use Rattle.cf_desired.proofs.laws.update_stays.Goals as goal

pub returns : goal.returns
returns c = update_stays
