use Rattle.std.proofs.Common.{◌≡◌, length}
use Rattle.cf_plan.specs.Homes.{is_of_lane}
use Rattle.cf_plan.proofs.lanes.names_lane.Given as goal

abbrev pub invariant-loop-byte : goal.invariant-loop-byte
invariant-loop-byte l = is_of_lane l.lane l.physical ≡ is_of_lane l.name l.id

abbrev pub decreases-loop-byte : goal.decreases-loop-byte
decreases-loop-byte l = length l.name
