-- Why an operation turned back, and the call that failed it, as entries tell it (User Guide: stack failure options; which cause is told is
-- this project's own).
use Rattle.std.specs.Prelude.{◌≡◌, ⊤, ℕ, Bool, true, false, List, [], ◌∷◌, ◌++◌, Option, Some, None}
use Rattle.std.specs.List.{list_any}
use Rattle.cf_tree.specs.Counts.{HasRisen}
use Rattle.cf_tree.specs.Lists.{In}
use Rattle.cf_schema.specs.declared.described.Schema.{Schema}
use Rattle.cf_entry.specs.declared.entry.Entry.{Entry}
use Rattle.cf_entry.specs.declared.entry.Entry.TheVariants as entry
use Rattle.cf_entry.specs.declared.entry.Reply.{Reply}
use Rattle.cf_entry.specs.declared.entry.Reply.TheVariants as reply
use Rattle.cf_entry.specs.declared.turn.Cause.{Cause}
use Rattle.cf_entry.specs.declared.turn.Cause.TheVariants as cause
use Rattle.cf_entry.specs.declared.turn.Phase.TheVariants as phase
use Rattle.cf_entry.specs.declared.turn.Reason.{Reason}
use Rattle.cf_entry.specs.declared.turn.Reason.TheVariants as reason
use Rattle.cf_entry.specs.declared.status.Status.{Status}
use Rattle.cf_entry.specs.declared.status.Status.TheVariants as status
use Rattle.cf_effect.specs.declared.call.Call.{Call}
use Rattle.cf_effect.specs.Begin.{continues}
use Rattle.cf_effect.specs.Calls.{call_under}
use Rattle.cf_effect.specs.Fold.{fold_of}
use Rattle.cf_effect.specs.Operation.{own_of}
use Rattle.cf_effect.specs.Status.{is_in_progress}
use Rattle.cf_effect.specs.World.{StackState, World, empty_world, stack_at}
use Rattle.cf_plan.specs.Follow.{failed_of}
use Rattle.cf_plan.specs.Forward.{IsCause, first_failing}
use Rattle.cf_plan.specs.Life.{Life, world_of}
use Rattle.cf_core.specs.Theorem.{HoldsAlways}

-- the cause for which an entry turns its operation back
abbrev pub cause_in : Entry → Option Cause
cause_in (entry.Phase number phase.Back cause) = cause
cause_in _ = None

-- why a call failed: the code of its refusal, or that it broke off
abbrev pub reason_in : Reply → Option Reason
reason_in (reply.Success physical attrs) = None
reason_in (reply.Failed code) = Some (reason.Code code)
reason_in reply.Doubt = Some reason.Fault

-- the operation turned back among these entries, for this cause, as it stood then
pub record TurnsBack (schemas : List Schema) (x : World) (number : ℕ) (name : List ℕ) (es : List Entry) (c : Cause) : Type 0 where
  pub before : List Entry
  pub after : List Entry
  pub at : es ≡ before ++ entry.Phase number phase.Back (Some c) ∷ after
  pub stack : StackState
  pub here : stack_at name (fold_of x before) ≡ Some stack
  pub is_cause : IsCause schemas name (fold_of x before) stack c

-- The call that failed a forward phase first, as it stood then, is one of the stack's last operation: its row is at this path, it was
-- refused or broke off for this reason, and the count of its handler rose.
pub record HasFailedAt (schemas : List Schema) (was s : StackState) (path : List ℕ) (why : Reason) : Type 0 where
  pub token : ℕ
  pub answer : Reply
  pub before : ℕ
  pub after : ℕ
  pub first : first_failing schemas was ≡ Some (token, why)
  pub stands : In (entry.Outcome s.operation token answer before after) (own_of s)
  pub told : reason_in answer ≡ Some why
  pub call : Call
  pub of_call : call_under token s ≡ Some call
  pub at_path : call.path ≡ path
  pub rose : HasRisen before after

-- where the cause is a handler, a call failed at its path for its reason
abbrev pub HasFailedFor : List Schema → StackState → StackState → Cause → Type 0
HasFailedFor schemas was s (cause.Handler path why) = HasFailedAt schemas was s path why
HasFailedFor schemas was s (cause.Plan fault) = ⊤
HasFailedFor schemas was s (cause.Export name) = ⊤

-- At every moment of a life: an operation that has turned back had the cause that is told, as it stood then, and where that is a handler,
-- one of its own calls failed so.
abbrev pub TurnsHadCause : Type 0
TurnsHadCause =
    (schemas : List Schema) (life : Life) (name : List ℕ) (s : StackState) (c : Cause) → HoldsAlways schemas life
    → stack_at name (world_of life) ≡ Some s → In (entry.Phase s.operation phase.Back (Some c)) (own_of s)
    → (turn : TurnsBack schemas empty_world s.operation name life.entries c) × HasFailedFor schemas turn.stack s c

-- the entry begins a continued rollback; the stack's last operation is one
abbrev pub is_continuation : Entry → Bool
is_continuation (entry.Begin number name k) = continues k
is_continuation _ = false

abbrev pub was_continued : StackState → Bool
was_continued s = list_any is_continuation (own_of s)

-- in these statuses an operation has turned back, or is a continued rollback
abbrev pub is_turned_back : Status → Bool
is_turned_back status.RollbackInProgress = true
is_turned_back status.RollbackComplete = true
is_turned_back status.RollbackFailed = true
is_turned_back status.UpdateRollbackInProgress = true
is_turned_back status.UpdateRollbackFailed = true
is_turned_back status.UpdateRollbackCompleteCleanupInProgress = true
is_turned_back status.UpdateRollbackComplete = true
is_turned_back _ = false

-- an operation that has turned back tells its cause, unless it is a continued rollback
abbrev pub BackIsTold : Type 0
BackIsTold =
    (schemas : List Schema) (life : Life) (name : List ℕ) (s : StackState) → HoldsAlways schemas life
    → stack_at name (world_of life) ≡ Some s → is_turned_back s.status ≡ true → was_continued s ≡ false
    → (c : Cause) × In (entry.Phase s.operation phase.Back (Some c)) (own_of s)

-- while an operation is in progress none of its paths is told as failed
abbrev pub NoneFailedYet : Type 0
NoneFailedYet =
    (schemas : List Schema) (life : Life) (name : List ℕ) (s : StackState) → HoldsAlways schemas life
    → stack_at name (world_of life) ≡ Some s → is_in_progress s.status ≡ true → failed_of s ≡ []
