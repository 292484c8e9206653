use Rattle.std.proofs.Common.{◌≡◌, map, take}
use Rattle.cf_tree.specs.Value.{pairs_of}
use Rattle.cf_desired.specs.Props.{prop_of}
use Rattle.cf_desired.proofs.Known.{known_as}
use Rattle.cf_desired.proofs.props.Props.known.Given as goal

abbrev pub invariant-loop-prop : goal.invariant-loop-prop
invariant-loop-prop l = map prop_of (take l.prop-index l.prop-items) ≡ map known_as (pairs_of l.pairs.items)
