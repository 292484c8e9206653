-- Which end each status promises, from the end of an operation until the next one begins on its stack (User Guide: stack status codes).
use Rattle.std.specs.Prelude.{◌≡◌, ℕ, List, [], Some}
use Rattle.cf_entry.specs.declared.status.Status.{Status}
use Rattle.cf_entry.specs.declared.status.Status.TheVariants as status
use Rattle.cf_effect.specs.World.{StackState, World, stack_at}
use Rattle.cf_plan.specs.Follow.{failed_of}
use Rattle.cf_plan.specs.Lanes.{Lane}
use Rattle.cf_plan.specs.Ends.{IsComplete, IsRestored, IsCleared, IsBlamed}
use Rattle.cf_plan.specs.Life.{Life, world_of}

abbrev pub Promised : Status → List ℕ → World → StackState → List Lane → Type 0
Promised status.CreateComplete name x s lanes = IsComplete name x s lanes
Promised status.UpdateComplete name x s lanes = IsComplete name x s lanes
Promised status.RollbackComplete name x s lanes = IsRestored s lanes × (s.before ≡ [])
Promised status.UpdateRollbackComplete name x s lanes = IsRestored s lanes
Promised status.DeleteComplete name x s lanes = IsCleared s
Promised status.ReviewInProgress name x s lanes = IsCleared s
Promised status.RollbackFailed name x s lanes = IsBlamed s (failed_of s)
Promised status.UpdateRollbackFailed name x s lanes = IsBlamed s (failed_of s)
Promised status.DeleteFailed name x s lanes = IsBlamed s (failed_of s)
Promised _ name x s lanes = Unit {0}

-- every stack keeps what its status promises
abbrev pub AreKept : Life → Type 0
AreKept life =
    (name : List ℕ) (s : StackState) → stack_at name (world_of life) ≡ Some s → Promised s.status name (world_of life) s life.lanes
