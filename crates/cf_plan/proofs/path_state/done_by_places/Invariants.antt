use Rattle.std.proofs.Common.{◌≡◌, [], fold, take}
use Rattle.cf_plan.specs.PathStates.{with_done}
use Rattle.cf_plan.proofs.path_state.done_by_places.Given as goal

abbrev pub invariant-loop-state : goal.invariant-loop-state
invariant-loop-state l = l.done.items ≡ fold with_done [] (take l.state-index l.states)
