-- The rollback of an update gives everything back: what each entry that is written leaves of its stack, by the status of the stack
-- before and after it (this project's own).
use Rattle.std.specs.Prelude.{◌≡◌, ℕ, List, [], ⊤}
use Rattle.cf_tree.specs.Datum.{Data}
use Rattle.cf_tree.specs.declared.request.Request.TheVariants as request
use Rattle.cf_tree.specs.declared.source.Source.{Source}
use Rattle.cf_entry.specs.declared.entry.Entry.{Entry}
use Rattle.cf_entry.specs.declared.status.Status.{Status}
use Rattle.cf_entry.specs.declared.status.Status.TheVariants as status
use Rattle.cf_schema.specs.declared.described.Schema.{Schema}
use Rattle.cf_effect.specs.declared.held.Held.{Held}
use Rattle.cf_effect.specs.declared.held.Pending.{Pending}
use Rattle.cf_effect.specs.World.{StackState, World}
use Rattle.cf_tree.specs.Lists.{In}
use Rattle.cf_core.specs.Advancing.{IsAdvancing}
use Rattle.cf_core.specs.Back.{DeletesMade, IsBackAll, IsGoingBack, SkipsNone}
use Rattle.cf_core.specs.Fits.{IsWritten}
use Rattle.cf_core.specs.Whole.{IsHeldAtRest}

-- an update that goes forward was not continued
abbrev pub UpdatesSkipNone : Type 0
UpdatesSkipNone =
    (schemas : List Schema) (x : World) (out : List ℕ) (e : Entry) (name : List ℕ) (s t : StackState) → IsWritten schemas x out e name s t
    → (s.status ≡ status.UpdateInProgress → SkipsNone s) → t.status ≡ status.UpdateInProgress → SkipsNone t

-- an update that went forward goes back
abbrev pub UpdatesTurnBack : Type 0
UpdatesTurnBack =
    (schemas : List Schema) (x : World) (out : List ℕ) (e : Entry) (name : List ℕ) (s t : StackState) (source : Source)
    → IsWritten schemas x out e name s t → s.status ≡ status.UpdateInProgress → IsAdvancing schemas s source → SkipsNone s
    → t.status ≡ status.UpdateRollbackInProgress → IsGoingBack t

-- it goes on going back, has failed, or has given all back
abbrev pub IsAfterBack : StackState → Status → Type 0
IsAfterBack t status.UpdateRollbackInProgress = IsGoingBack t
IsAfterBack t status.UpdateRollbackFailed = IsGoingBack t
IsAfterBack t status.UpdateRollbackCompleteCleanupInProgress = IsBackAll t × (t.tokens ≡ [])
IsAfterBack t state = ⊥

abbrev pub UpdatesGoBack : Type 0
UpdatesGoBack =
    (schemas : List Schema) (x : World) (out : List ℕ) (e : Entry) (name : List ℕ) (s t : StackState) → IsWritten schemas x out e name s t
    → s.status ≡ status.UpdateRollbackInProgress → IsGoingBack s → IsAfterBack t t.status

-- one that failed stays so, is continued, or its stack is deleted
abbrev pub IsAfterFailed : StackState → Status → Type 0
IsAfterFailed t status.UpdateRollbackFailed = IsGoingBack t
IsAfterFailed t status.UpdateRollbackInProgress = IsGoingBack t
IsAfterFailed t status.DeleteInProgress = ⊤
IsAfterFailed t state = ⊥

abbrev pub FailedRollbacksStay : Type 0
FailedRollbacksStay =
    (schemas : List Schema) (x : World) (out : List ℕ) (e : Entry) (name : List ℕ) (s t : StackState) → IsWritten schemas x out e name s t
    → s.status ≡ status.UpdateRollbackFailed → IsGoingBack s → IsAfterFailed t t.status

-- meanwhile what was held before is held, and an open call is a create or an update of what is held at its path
pub record HoldsWhatIsOpen (s : StackState) : Type 0 where
  pub before : (b : Held) → In b s.before → (h : Held) × In h s.held × (h.physical ≡ b.physical) × (h.path ≡ b.path)
  pub updates :
      (p : Pending) (id : List ℕ) (props : List (List ℕ × Data)) → In p s.tokens → p.request ≡ request.Update id props
      → (h : Held) × In h s.held × (h.physical ≡ id) × (h.path ≡ p.path)
  pub no_deletion : (p : Pending) (id : List ℕ) → In p s.tokens → p.request ≡ request.Delete id → ⊥

abbrev pub BackHolds : Type 0
BackHolds = (s : StackState) → IsGoingBack s → HoldsWhatIsOpen s

-- what it made is cleaned up, and then it is complete: at rest, where nothing made is left and no call is open
abbrev pub IsAfterBackClean : StackState → StackState → Status → Type 0
IsAfterBackClean s t status.UpdateRollbackCompleteCleanupInProgress = IsBackAll t
IsAfterBackClean s t status.UpdateRollbackComplete = IsBackAll t × (s.tokens ≡ [] → s.made ≡ [] → IsHeldAtRest t)
IsAfterBackClean s t state = ⊥

abbrev pub BackStaysInCleanup : Type 0
BackStaysInCleanup =
    (schemas : List Schema) (x : World) (out : List ℕ) (e : Entry) (name : List ℕ) (s t : StackState) → IsWritten schemas x out e name s t
    → s.status ≡ status.UpdateRollbackCompleteCleanupInProgress → IsBackAll s → ((p : Pending) → In p s.tokens → DeletesMade s p)
    → IsAfterBackClean s t t.status

-- what is given back stays until the next operation begins
abbrev pub IsAfterReturn : StackState → Status → Type 0
IsAfterReturn t status.UpdateRollbackComplete = IsBackAll t × IsHeldAtRest t
IsAfterReturn t status.UpdateInProgress = ⊤
IsAfterReturn t status.DeleteInProgress = ⊤
IsAfterReturn t state = ⊥

abbrev pub BackStaysAtRest : Type 0
BackStaysAtRest =
    (schemas : List Schema) (x : World) (out : List ℕ) (e : Entry) (name : List ℕ) (s t : StackState) → IsWritten schemas x out e name s t
    → s.status ≡ status.UpdateRollbackComplete → IsBackAll s → IsHeldAtRest s → IsAfterReturn t t.status
