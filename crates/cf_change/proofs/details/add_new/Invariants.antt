use Rattle.std.proofs.Common.{◌≡◌, take, map, fold}
use Rattle.cf_desired.specs.Props.{prop_of}
use Rattle.cf_desired.specs.Shape.{put_name}
use Rattle.cf_change.proofs.details.add_new.Given as goal

abbrev pub invariant-loop-prop : goal.invariant-loop-prop
invariant-loop-prop l = l.names ≡ fold put_name l.fn.names (map (λ p. p.0) (map prop_of (take l.prop-index l.props)))
