use Rattle.std.proofs.Common.{◌≡◌, ℕ, List, take}
use Rattle.cf_graph.specs.Noted.{places_noted}
use Rattle.cf_graph.specs.Waiting.{times, copies, row_needs}
use Rattle.cf_graph.proofs.sequence.waiting_for.Given as goal

abbrev pub invariant-loop-at : goal.invariant-loop-at
invariant-loop-at l = (q : List ℕ) (p : ℕ) → copies p (places_noted l.waiting q) ≡ times q (row_needs (take l.at l.all) p)
