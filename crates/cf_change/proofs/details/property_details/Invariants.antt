use Rattle.std.proofs.Common.{◌≡◌, ◌++◌, drop, map}
use Rattle.std.specs.Prelude.{flat_map}
use Rattle.std.specs.Option.{option_copied}
use Rattle.cf_desired.specs.Props.{prop_of}
use Rattle.cf_change.specs.Changes.{property_detail, property_details}
use Rattle.cf_change.proofs.details.property_details.Given as goal

abbrev pub invariant-loop-pair : goal.invariant-loop-pair
invariant-loop-pair l =
    property_details (option_copied l.schema) l.old (map prop_of l.new)
    ≡ l.details ++ flat_map (property_detail (option_copied l.schema) l.old (map prop_of l.new)) (map (λ p. p.0) (drop l.pair-index l.pair-items))
