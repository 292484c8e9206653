use Rattle.std.proofs.Common.{◌≡◌, ◌<◌, ◌++◌, ℕ, map, true, length, get_or, []}
use Rattle.std.specs.BTreeSet.{contains, btree_set_len}
use Rattle.std.specs.Ordering.{nat_cmp}
use Rattle.cf_graph.proofs.needs.names_at.Given as goal

abbrev pub invariant-loop-place : goal.invariant-loop-place
invariant-loop-place l = record {
  so_far : map (λ p. get_or l.names p []) l.initial.places.keys ≡ l.found ++ map (λ p. get_or l.names p []) l.places.keys;
  within : (p : ℕ) → contains nat_cmp l.places p ≡ true → p < length l.names;
}

abbrev pub decreases-loop-place : goal.decreases-loop-place
decreases-loop-place l = btree_set_len l.places
