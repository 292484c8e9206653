use Rattle.std.proofs.Common.{◌-◌}
use Rattle.cf_tree.proofs.Halves.{IsBetween, as_is}
use Rattle.cf_stacks.proofs.standing.place_of.Given as goal

abbrev pub invariant-loop-low : goal.invariant-loop-low
invariant-loop-low l = IsBetween as_is l.name l.pairs l.low l.high

abbrev pub decreases-loop-low : goal.decreases-loop-low
decreases-loop-low l = l.high - l.low
