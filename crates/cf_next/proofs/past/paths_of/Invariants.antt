use Rattle.std.proofs.Common.{◌≡◌, [], true, fold, take}
use Rattle.cf_effect.specs.declared.held.Pending.{Pending}
use Rattle.cf_next.specs.Restoring.{mark_if}
use Rattle.cf_next.proofs.past.paths_of.Given as goal

abbrev pub invariant-loop-pending : goal.invariant-loop-pending
invariant-loop-pending l = l.marks ≡ fold (λ ms (p : Pending). mark_if true p.path ms) [] (take l.pending-index l.tokens)
