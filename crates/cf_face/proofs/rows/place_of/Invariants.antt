use Rattle.std.proofs.Common.{◌-◌}
use Rattle.cf_face.proofs.Rising.{IsAround}
use Rattle.cf_face.proofs.rows.place_of.Given as goal

abbrev pub invariant-loop-low : goal.invariant-loop-low
invariant-loop-low l = IsAround (λ r. r.now) l.held l.rows l.low l.high

abbrev pub decreases-loop-low : goal.decreases-loop-low
decreases-loop-low l = l.high - l.low
