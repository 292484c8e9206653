-- How the status of a stack moves (User Guide: stack status codes).
use Rattle.std.specs.Prelude.{ℕ, IsTrue, List}
use Rattle.cf_entry.specs.declared.entry.Entry.{Entry}
use Rattle.cf_entry.specs.declared.status.Status.{Status}
use Rattle.cf_entry.specs.declared.status.Status.TheVariants as status
use Rattle.cf_schema.specs.declared.described.Schema.{Schema}
use Rattle.cf_effect.specs.World.{StackState, World}
use Rattle.cf_plan.specs.Accept.{creates_from}
use Rattle.cf_plan.specs.Follow.{deletes_from, updates_from}
use Rattle.cf_core.specs.Fits.{IsWritten}

pub data StatusMoves : Status → Status → Type 0 where
  stays : {a : Status} → StatusMoves a a
  reviewed : StatusMoves status.DeleteComplete status.ReviewInProgress
  -- an operation begins
  creates : {a : Status} → IsTrue (creates_from a) → StatusMoves a status.CreateInProgress
  updates : {a : Status} → IsTrue (updates_from a) → StatusMoves a status.UpdateInProgress
  deletes : {a : Status} → IsTrue (deletes_from a) → StatusMoves a status.DeleteInProgress
  continues : StatusMoves status.UpdateRollbackFailed status.UpdateRollbackInProgress
  -- a creation goes back, or ends
  creation_back : StatusMoves status.CreateInProgress status.RollbackInProgress
  created : StatusMoves status.CreateInProgress status.CreateComplete
  unmade : StatusMoves status.RollbackInProgress status.RollbackComplete
  unmaking_failed : StatusMoves status.RollbackInProgress status.RollbackFailed
  -- an update cleans up, goes back, cleans up what it made, or ends
  cleans : StatusMoves status.UpdateInProgress status.UpdateCompleteCleanupInProgress
  updated : StatusMoves status.UpdateCompleteCleanupInProgress status.UpdateComplete
  update_back : StatusMoves status.UpdateInProgress status.UpdateRollbackInProgress
  back_cleans : StatusMoves status.UpdateRollbackInProgress status.UpdateRollbackCompleteCleanupInProgress
  rolled_back : StatusMoves status.UpdateRollbackCompleteCleanupInProgress status.UpdateRollbackComplete
  back_failed : StatusMoves status.UpdateRollbackInProgress status.UpdateRollbackFailed
  -- a deletion ends
  deleted : StatusMoves status.DeleteInProgress status.DeleteComplete
  deletion_failed : StatusMoves status.DeleteInProgress status.DeleteFailed

-- so it moves with each entry that is written
abbrev pub WrittenMovesStatus : Type 0
WrittenMovesStatus =
    (schemas : List Schema) (x : World) (out : List ℕ) (e : Entry) (name : List ℕ) (s t : StackState) → IsWritten schemas x out e name s t
    → StatusMoves s.status t.status
