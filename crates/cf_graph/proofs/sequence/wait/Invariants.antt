use Rattle.std.proofs.Common.{◌≡◌, ℕ, ◌+◌, List, take, nat_eq, if◌then◌else◌}
use Rattle.cf_graph.specs.Noted.{places_noted}
use Rattle.cf_graph.specs.Waiting.{times, copies}
use Rattle.cf_graph.proofs.sequence.wait.Given as goal

abbrev pub invariant-loop-need : goal.invariant-loop-need
invariant-loop-need l = (q : List ℕ) (p : ℕ) → copies p (places_noted l.waiting q) ≡ copies p (places_noted l.initial.waiting q) + (if nat_eq l.at p then times q (take l.need-index l.need-items) else 0)
