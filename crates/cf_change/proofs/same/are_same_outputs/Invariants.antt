use Rattle.std.proofs.Common.{◌≡◌, drop}
use Rattle.cf_change.specs.Changes.{are_same_outputs}
use Rattle.cf_change.proofs.same.are_same_outputs.Given as goal

abbrev pub invariant-loop-at : goal.invariant-loop-at
invariant-loop-at l = are_same_outputs l.held l.wanted ≡ are_same_outputs (drop l.at l.held) (drop l.at l.wanted)
