use Rattle.cf_desired.proofs.ShapeStays.{shape_stays}
use Rattle.cf_desired.proofs.laws.shape_stays.Goals as goal

pub returns : goal.returns
returns c = shape_stays
