use Rattle.cf_change.proofs.Shown.{shape_is_held}
use Rattle.cf_change.proofs.laws.shape_is_held.Goals as goal

pub returns : goal.returns
returns c = shape_is_held
