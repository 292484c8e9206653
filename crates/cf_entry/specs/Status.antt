-- The statuses of a stack ("Stack status codes" of the CloudFormation User Guide), with the numbers that the journal has (this project's
-- own).
use Rattle.std.specs.Prelude.{ℕ, ◌==◌, Bool, true, false, List, [], ◌∷◌, Option, find, codes}
use Rattle.cf_entry.specs.declared.status.Status.{Status}
use Rattle.cf_entry.specs.declared.status.Status.TheVariants as status

-- the number of a status
abbrev pub status_number : Status → ℕ
status_number status.CreateInProgress = 1
status_number status.CreateComplete = 2
status_number status.RollbackInProgress = 3
status_number status.RollbackComplete = 4
status_number status.RollbackFailed = 5
status_number status.UpdateInProgress = 6
status_number status.UpdateCompleteCleanupInProgress = 7
status_number status.UpdateComplete = 8
status_number status.UpdateRollbackInProgress = 9
status_number status.UpdateRollbackCompleteCleanupInProgress = 10
status_number status.UpdateRollbackComplete = 11
status_number status.UpdateRollbackFailed = 12
status_number status.DeleteInProgress = 13
status_number status.DeleteComplete = 14
status_number status.DeleteFailed = 15
status_number status.ReviewInProgress = 16

-- the name of a status, as reports print it
abbrev pub status_name : Status → List ℕ
status_name status.CreateInProgress = codes "CREATE_IN_PROGRESS"
status_name status.CreateComplete = codes "CREATE_COMPLETE"
status_name status.RollbackInProgress = codes "ROLLBACK_IN_PROGRESS"
status_name status.RollbackComplete = codes "ROLLBACK_COMPLETE"
status_name status.RollbackFailed = codes "ROLLBACK_FAILED"
status_name status.UpdateInProgress = codes "UPDATE_IN_PROGRESS"
status_name status.UpdateCompleteCleanupInProgress = codes "UPDATE_COMPLETE_CLEANUP_IN_PROGRESS"
status_name status.UpdateComplete = codes "UPDATE_COMPLETE"
status_name status.UpdateRollbackInProgress = codes "UPDATE_ROLLBACK_IN_PROGRESS"
status_name status.UpdateRollbackCompleteCleanupInProgress = codes "UPDATE_ROLLBACK_COMPLETE_CLEANUP_IN_PROGRESS"
status_name status.UpdateRollbackComplete = codes "UPDATE_ROLLBACK_COMPLETE"
status_name status.UpdateRollbackFailed = codes "UPDATE_ROLLBACK_FAILED"
status_name status.DeleteInProgress = codes "DELETE_IN_PROGRESS"
status_name status.DeleteComplete = codes "DELETE_COMPLETE"
status_name status.DeleteFailed = codes "DELETE_FAILED"
status_name status.ReviewInProgress = codes "REVIEW_IN_PROGRESS"

-- all statuses
abbrev pub all_statuses : List Status
all_statuses =
    status.CreateInProgress ∷ status.CreateComplete ∷ status.RollbackInProgress ∷ status.RollbackComplete ∷ status.RollbackFailed
    ∷ status.UpdateInProgress ∷ status.UpdateCompleteCleanupInProgress ∷ status.UpdateComplete ∷ status.UpdateRollbackInProgress
    ∷ status.UpdateRollbackCompleteCleanupInProgress ∷ status.UpdateRollbackComplete ∷ status.UpdateRollbackFailed ∷ status.DeleteInProgress
    ∷ status.DeleteComplete ∷ status.DeleteFailed ∷ status.ReviewInProgress ∷ []

-- the status with the number n, if there is one
abbrev pub status_numbered : ℕ → Option Status
status_numbered n = find (λ s. status_number s == n) all_statuses

-- the statuses in which an operation ends
abbrev pub is_end : Status → Bool
is_end status.CreateComplete = true
is_end status.RollbackComplete = true
is_end status.RollbackFailed = true
is_end status.UpdateComplete = true
is_end status.UpdateRollbackComplete = true
is_end status.UpdateRollbackFailed = true
is_end status.DeleteComplete = true
is_end status.DeleteFailed = true
is_end _ = false
