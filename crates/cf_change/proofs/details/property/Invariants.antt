use Rattle.std.proofs.Common.{◌≡◌, drop, map}
use Rattle.cf_tree.specs.Keys.{value_at}
use Rattle.cf_desired.specs.Props.{prop_of}
use Rattle.cf_change.proofs.details.property.Given as goal

abbrev pub invariant-loop-prop : goal.invariant-loop-prop
invariant-loop-prop l = value_at l.name (map prop_of l.props) ≡ value_at l.name (map prop_of (drop l.prop-index l.props))
