use Rattle.std.proofs.Common.{◌≡◌, flat_map, take}
use Rattle.cf_plan.specs.PathStates.{starts_from}
use Rattle.cf_plan.proofs.path_starts.starts_from_all.Given as goal

abbrev pub invariant-loop-state : goal.invariant-loop-state
invariant-loop-state l = l.starts ≡ flat_map (starts_from l.schemas l.stack.stack l.done) (take l.state-index l.states)
