use Rattle.std.proofs.Common.{◌-◌, true}
use Rattle.cf_tree.proofs.Halves.{IsBetween}
use Rattle.cf_desired.proofs.shared.place_named.Given as goal

abbrev pub invariant-loop-low : goal.invariant-loop-low
invariant-loop-low l = IsBetween (λ r. (r.name, true)) l.id l.resources l.low l.high

abbrev pub decreases-loop-low : goal.decreases-loop-low
decreases-loop-low l = l.high - l.low
