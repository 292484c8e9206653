use Rattle.std.proofs.Common.{◌≡◌, drop}
use Rattle.cf_tree.specs.Keys.{value_at}
use Rattle.cf_param.proofs.offered.Given.get.Given as goal

abbrev pub invariant-loop-pair : goal.invariant-loop-pair
invariant-loop-pair l = value_at l.name l.pair-items ≡ value_at l.name (drop l.pair-index l.pair-items)
