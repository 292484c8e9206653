use Rattle.std.proofs.Common.{◌-◌}
use Rattle.cf_tree.proofs.Halves.{IsBetween}
use Rattle.cf_tree.specs.Form.{field_of}
use Rattle.cf_tree.proofs.expr.place_in.Given as goal

abbrev pub invariant-loop-low : goal.invariant-loop-low
invariant-loop-low l = IsBetween field_of l.name l.pairs l.low l.high

abbrev pub decreases-loop-low : goal.decreases-loop-low
decreases-loop-low l = l.high - l.low
