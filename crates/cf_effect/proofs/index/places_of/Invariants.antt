use Rattle.std.proofs.Common.{take}
use Rattle.cf_effect.specs.Index.{ArePlacesOf}
use Rattle.cf_effect.proofs.index.places_of.Given as goal

abbrev pub invariant-loop-at : goal.invariant-loop-at
invariant-loop-at g l = ArePlacesOf g.T.FoundByPath.is_found_by (take l.at l.rows) l.places
