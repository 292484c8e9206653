use Rattle.std.proofs.Common.{◌≡◌, ◌++◌, Ok}
use Rattle.std.specs.Vec.Iter.{into_iter_items}
use Rattle.cf_schema.specs.Reading.{and_then, properties_named}
use Rattle.cf_schema.specs.Spelling.{spelled_as}
use Rattle.cf_schema.proofs.pointers.properties.Given as goal

abbrev pub invariant-loop-text : goal.invariant-loop-text
invariant-loop-text l =
    properties_named (spelled_as l.spelling) l.props l.fn.texts
    ≡ and_then (properties_named (spelled_as l.spelling) l.props (into_iter_items l.text-iterator)) (λ ps. Ok (l.found ++ ps))
