use Rattle.cf_tree.specs.Forms.{parts_of_form}
use Rattle.cf_desired.proofs.offers.+offered_in.Given as goal

abbrev pub decreases-offered_in : goal.decreases-offered_in
decreases-offered_in l = parts_of_form l.expr.now
