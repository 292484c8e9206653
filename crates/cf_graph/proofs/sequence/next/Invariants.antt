use Rattle.std.proofs.Common.{◌≡◌, ℕ, ◌⊎◌, true}
use Rattle.std.specs.BTreeSet.{contains, btree_set_len}
use Rattle.std.specs.Ordering.{nat_cmp}
use Rattle.cf_graph.specs.Waiting.{has_come}
use Rattle.cf_graph.proofs.sequence.next.Given as goal

abbrev pub invariant-loop-at : goal.invariant-loop-at
invariant-loop-at l = record {
  fewer : (q : ℕ) → contains nat_cmp l.ready q ≡ true → contains nat_cmp l.initial.ready q ≡ true;
  others : (q : ℕ) → contains nat_cmp l.initial.ready q ≡ true → (has_come l.all l.placed.entries q ≡ true) ⊎ (contains nat_cmp l.ready q ≡ true);
}

abbrev pub decreases-loop-at : goal.decreases-loop-at
decreases-loop-at l = btree_set_len l.ready
