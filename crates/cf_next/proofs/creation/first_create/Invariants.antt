use Rattle.std.proofs.Common.{◌≡◌, ℕ, ◌-◌, ◌<◌, None, length}
use Rattle.cf_next.specs.Creation.{fitting_ranked}
use Rattle.cf_next.proofs.creation.first_create.Given as goal

abbrev pub invariant-ranks : goal.invariant-ranks
invariant-ranks l = (rank : ℕ) → rank < l.from → fitting_ranked l.homes l.stack.stack l.ahead.layout l.findings rank ≡ None

abbrev pub decreases-ranks : goal.decreases-ranks
decreases-ranks l = length l.ahead.readiness.ready - l.from
