use Rattle.std.proofs.Common.{◌≡◌, ℕ, ◌&&◌, nat_lt, nat_eq, length}
use Rattle.std.specs.BTreeSet.{contains}
use Rattle.std.specs.Ordering.{nat_cmp}
use Rattle.cf_graph.specs.Waiting.{row_needs}
use Rattle.cf_graph.proofs.sequence.first_ready.Given as goal

abbrev pub invariant-loop-at : goal.invariant-loop-at
invariant-loop-at l = (p : ℕ) → contains nat_cmp l.ready p ≡ (nat_lt p l.at && nat_eq (length (row_needs l.all p)) 0)
