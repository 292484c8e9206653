use Rattle.std.proofs.Common.{◌≡◌, drop, find}
use Rattle.std.specs.Str.{bytes_eq}
use Rattle.cf_schema.specs.Spelling.{spelled_as}
use Rattle.cf_schema.proofs.pointers.property.Given as goal

abbrev pub invariant-loop-property : goal.invariant-loop-property
invariant-loop-property l =
    find (λ p. bytes_eq l.text (spelled_as l.spelling p)) l.props ≡ find (λ p. bytes_eq l.text (spelled_as l.spelling p)) (drop l.property-index l.props)
