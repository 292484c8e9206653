-- The statuses of a stack (User Guide, stack status codes) and the phases of an operation in them.
use Rattle.std.specs.Prelude.{Bool, true, false, Option, Some, None, is_some}
use Rattle.cf_entry.specs.declared.status.Status.{Status}
use Rattle.cf_entry.specs.declared.entry.Begun.{Begun}
use Rattle.cf_entry.specs.declared.turn.Phase.{Phase}
use Rattle.cf_entry.specs.declared.status.Status.TheVariants as status
use Rattle.cf_entry.specs.declared.entry.Begun.TheVariants as begin
use Rattle.cf_entry.specs.declared.turn.Phase.TheVariants as phase

-- what an operation is doing: making and changing; deleting what is superseded; rolling back; deleting what was made; deleting all
pub data Stage : Type 0 where
  Forward : Stage
  Clean : Stage
  Back : Stage
  BackClean : Stage
  Gone : Stage

-- the stage of an operation in progress
abbrev pub stage_of : Status → Option Stage
stage_of status.CreateInProgress = Some Forward
stage_of status.UpdateInProgress = Some Forward
stage_of status.UpdateCompleteCleanupInProgress = Some Clean
stage_of status.RollbackInProgress = Some Back
stage_of status.UpdateRollbackInProgress = Some Back
stage_of status.UpdateRollbackCompleteCleanupInProgress = Some BackClean
stage_of status.DeleteInProgress = Some Gone
stage_of _ = None

-- an operation is in progress: at all, in its forward phase, in its rollback
abbrev pub is_in_progress : Status → Bool
is_in_progress s = is_some (stage_of s)

abbrev pub goes_forward : Status → Bool
goes_forward status.CreateInProgress = true
goes_forward status.UpdateInProgress = true
goes_forward _ = false

abbrev pub goes_back : Status → Bool
goes_back status.RollbackInProgress = true
goes_back status.UpdateRollbackInProgress = true
goes_back _ = false

-- the status with which an operation begins
abbrev pub begun : Begun → Status
begun (begin.Create source) = status.CreateInProgress
begun (begin.Update source) = status.UpdateInProgress
begun (begin.Delete paths) = status.DeleteInProgress
begun (begin.Continue paths) = status.UpdateRollbackInProgress

-- the status of a later phase: a create has only one, which takes back what was made
abbrev pub turned : Status → Phase → Status
turned status.CreateInProgress phase.Back = status.RollbackInProgress
turned _ phase.Back = status.UpdateRollbackInProgress
turned _ phase.Clean = status.UpdateCompleteCleanupInProgress
turned _ phase.BackClean = status.UpdateRollbackCompleteCleanupInProgress

abbrev pub is_deleted : Status → Bool
is_deleted status.DeleteComplete = true
is_deleted _ = false

-- a name without a stack, or whose stack is deleted, is under review with its first change set
abbrev pub reviewed : Status → Status
reviewed status.DeleteComplete = status.ReviewInProgress
reviewed s = s
