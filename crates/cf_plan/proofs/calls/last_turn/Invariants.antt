use Rattle.std.proofs.Common.{◌≡◌, ◌≤◌, take, length}
use Rattle.cf_effect.specs.Operation.{is_turn_or_opening}
use Rattle.cf_plan.specs.Called.{last_place}
use Rattle.cf_plan.proofs.calls.last_turn.Given as goal

abbrev pub invariant-loop-at : goal.invariant-loop-at
invariant-loop-at l = (l.at ≤ length l.entries) × (last_place is_turn_or_opening (take l.at l.entries) ≡ last_place is_turn_or_opening l.entries)

abbrev pub decreases-loop-at : goal.decreases-loop-at
decreases-loop-at l = l.at
