use Rattle.std.proofs.Common.{◌≡◌, ℕ, nat_eq, take}
use Rattle.std.specs.List.{list_any}
use Rattle.std.specs.BTreeSet.{contains}
use Rattle.std.specs.Ordering.{nat_cmp}
use Rattle.cf_graph.specs.Noted.{places_noted}
use Rattle.cf_graph.proofs.needs.found_places.Given as goal

abbrev pub invariant-loop-name : goal.invariant-loop-name
invariant-loop-name l = (p : ℕ) → contains nat_cmp l.found p ≡ list_any (λ n. list_any (nat_eq p) (places_noted l.places n)) (take l.name-index l.names)
