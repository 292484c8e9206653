use Rattle.std.proofs.Common.{◌≡◌, ◌++◌, filter, take}
use Rattle.cf_next.specs.First.{is_lane_home}
use Rattle.cf_next.proofs.first.add_homes.Given as goal

abbrev pub invariant-loop-lane : goal.invariant-loop-lane
invariant-loop-lane l = l.homes ≡ l.fn.homes ++ filter (λ n. is_lane_home l.out l.world.world n.0) (take l.lane-index l.lanes)
