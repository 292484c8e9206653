-- Cleanups: what is deleted is tried until it is gone or kept, and at their end nothing of it is left (User Guide: stack updates,
-- update rollbacks; that nothing is left is this project's own).
use Rattle.std.specs.Prelude.{◌≡◌, ℕ, ◌<◌, Bool, true, false, List, []}
use Rattle.cf_tree.specs.declared.request.Request.TheVariants as request
use Rattle.cf_tree.specs.declared.source.Source.{Source}
use Rattle.cf_entry.specs.declared.entry.Entry.{Entry}
use Rattle.cf_entry.specs.declared.status.Status.{Status}
use Rattle.cf_entry.specs.declared.status.Status.TheVariants as status
use Rattle.cf_schema.specs.declared.described.Schema.{Schema}
use Rattle.cf_effect.specs.declared.call.Call.{Call}
use Rattle.cf_effect.specs.declared.held.Held.{Held}
use Rattle.cf_effect.specs.declared.held.Pending.{Pending}
use Rattle.cf_effect.specs.World.{StackState, World}
use Rattle.cf_effect.specs.Words.{deletes}
use Rattle.cf_effect.specs.Calls.{own_calls, refusals_of}
use Rattle.cf_effect.specs.Status.{Stage, BackClean, Clean}
use Rattle.cf_plan.specs.Follow.{cleaned_in}
use Rattle.cf_tree.specs.Lists.{In}
use Rattle.cf_core.specs.Advancing.{IsAdvancing}
use Rattle.cf_core.specs.Course.{IsTried}
use Rattle.cf_core.specs.Fits.{IsWritten}

-- the two cleanups, each with its status
pub data IsCleanup : Stage → Status → Type 0 where
  of_update : IsCleanup Clean status.UpdateCompleteCleanupInProgress
  of_rollback : IsCleanup BackClean status.UpdateRollbackCompleteCleanupInProgress

-- What an open call deletes was refused fewer than three times in its operation: after three refusals it may be kept, and no call on it
-- is to be open then.
abbrev pub HasTriesLeft : StackState → Type 0
HasTriesLeft s = (p : Pending) (id : List ℕ) → In p s.tokens → p.request ≡ request.Delete id → refusals_of id s < 3

-- each entry that is written keeps it so
abbrev pub TriesStayLeft : Type 0
TriesStayLeft =
    (schemas : List Schema) (x : World) (out : List ℕ) (e : Entry) (name : List ℕ) (s t : StackState) → IsWritten schemas x out e name s t
    → HasTriesLeft s → HasTriesLeft t

-- these resources are cleaned up: each open call deletes one of them, and each is tried
pub record IsTidying (rs : List Held) (s : StackState) : Type 0 where
  pub calls : (p : Pending) → In p s.tokens → (r : Held) × In r rs × (p.request ≡ request.Delete r.physical) × (p.path ≡ r.path)
  pub tried : (r : Held) → In r rs → IsTried s r.physical

-- the operation has deleted nothing yet
abbrev pub HasNoDeletion : StackState → Type 0
HasNoDeletion s = (c : Call) → In c (own_calls s) → (id : List ℕ) → deletes id c.request ≡ false

-- in these statuses no operation deletes
abbrev pub deletes_nothing : Status → Bool
deletes_nothing status.CreateInProgress = true
deletes_nothing status.UpdateInProgress = true
deletes_nothing status.UpdateRollbackInProgress = true
deletes_nothing _ = false

-- it has deleted nothing as it begins, and deletes nothing while it goes forward or gives back
abbrev pub NothingDeleted : Type 0
NothingDeleted =
    (schemas : List Schema) (x : World) (out : List ℕ) (e : Entry) (name : List ℕ) (s t : StackState) → IsWritten schemas x out e name s t
    → (deletes_nothing s.status ≡ true → HasNoDeletion s) → deletes_nothing t.status ≡ true → HasNoDeletion t

-- so a cleanup begins with nothing tried, and no call open
abbrev pub TidyingBegins : Type 0
TidyingBegins =
    (schemas : List Schema) (x : World) (out : List ℕ) (e : Entry) (name : List ℕ) (s t : StackState) (source : Source)
    → IsWritten schemas x out e name s t → s.status ≡ status.UpdateInProgress → t.status ≡ status.UpdateCompleteCleanupInProgress
    → IsAdvancing schemas s source → HasNoDeletion s → IsTidying (cleaned_in Clean t) t

abbrev pub BackTidyingBegins : Type 0
BackTidyingBegins =
    (schemas : List Schema) (x : World) (out : List ℕ) (e : Entry) (name : List ℕ) (s t : StackState) → IsWritten schemas x out e name s t
    → s.status ≡ status.UpdateRollbackInProgress → t.status ≡ status.UpdateRollbackCompleteCleanupInProgress → HasNoDeletion s
    → IsTidying (cleaned_in BackClean t) t

-- each entry keeps it so
abbrev pub TidyingStays : Type 0
TidyingStays =
    (schemas : List Schema) (x : World) (out : List ℕ) (e : Entry) (name : List ℕ) (s t : StackState) (stage : Stage) (at : Status)
    → IsWritten schemas x out e name s t → IsCleanup stage at → s.status ≡ at → t.status ≡ at → IsTidying (cleaned_in stage s) s
    → IsTidying (cleaned_in stage t) t

-- nothing of a cleanup is left, and no call is open
abbrev pub IsTidied : Stage → StackState → Type 0
IsTidied stage s = (s.tokens ≡ []) × (cleaned_in stage s ≡ [])

-- the status in which a cleanup ends
abbrev pub cleaned_up : Status → Status
cleaned_up status.UpdateCompleteCleanupInProgress = status.UpdateComplete
cleaned_up status.UpdateRollbackCompleteCleanupInProgress = status.UpdateRollbackComplete
cleaned_up at = at

-- where it ends, it is so before the end and after it, and what is held and made stays
abbrev pub TidyingEnds : Type 0
TidyingEnds =
    (schemas : List Schema) (x : World) (out : List ℕ) (e : Entry) (name : List ℕ) (s t : StackState) (stage : Stage) (at : Status)
    → IsWritten schemas x out e name s t → IsCleanup stage at → s.status ≡ at → (t.status ≡ at → ⊥) → IsTidying (cleaned_in stage s) s
    → IsTidied stage s × IsTidied stage t × (t.held ≡ s.held) × (t.made ≡ s.made) × (t.status ≡ cleaned_up at)
