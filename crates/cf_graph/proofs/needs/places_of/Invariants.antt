use Rattle.std.proofs.Common.{◌≡◌, ℕ, List, [], ◌&&◌, nat_lt, nat_eq, get_or}
use Rattle.std.specs.List.{list_any}
use Rattle.std.specs.Str.{bytes_eq}
use Rattle.cf_graph.specs.Noted.{places_noted}
use Rattle.cf_graph.proofs.needs.places_of.Given as goal

abbrev pub invariant-loop-at : goal.invariant-loop-at
invariant-loop-at l = (q : List ℕ) (p : ℕ) → list_any (nat_eq p) (places_noted l.places q) ≡ (nat_lt p l.at && bytes_eq q (get_or l.names p []))
