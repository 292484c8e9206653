use Rattle.std.proofs.Common.{◌≡◌, fold, take}
use Rattle.cf_next.specs.Joining.{with_call_on}
use Rattle.cf_next.proofs.dues.add_calls_on_each.Given as goal

abbrev pub invariant-loop-lane : goal.invariant-loop-lane
invariant-loop-lane l = l.dues ≡ fold (with_call_on l.out l.world.world l.start.path l.start.request) l.fn.dues (take l.lane-index l.lanes)
