use Rattle.cf_desired.proofs.Sorted.{needs_by_order}
use Rattle.cf_desired.proofs.laws.order_tells_needs.Goals as goal

pub returns : goal.returns
returns c = needs_by_order
