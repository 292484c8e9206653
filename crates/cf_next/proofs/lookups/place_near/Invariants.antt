use Rattle.std.proofs.Common.{◌-◌}
use Rattle.cf_tree.proofs.Halves.{IsBetween, as_is}
use Rattle.cf_next.proofs.lookups.place_near.Given as goal

abbrev pub invariant-loop-low : goal.invariant-loop-low
invariant-loop-low g l = IsBetween as_is l.name l.pairs l.low l.high

abbrev pub decreases-loop-low : goal.decreases-loop-low
decreases-loop-low g l = l.high - l.low
