-- What a change set tells is what its operation does: what it adds is created, what it modifies is updated in place or replaced as it says,
-- what it removes is deleted by the cleanup or kept (User Guide: change sets, the Action and Replacement of a change; what becomes of what is
-- removed or replaced is that of the template reference on policies; that these hold of each operation are this project's own laws).
use Rattle.std.specs.Prelude.{◌≡◌, ◌≢◌, ◌⊎◌, ℕ, ◌+◌, true, false, List, Option, Some, None, IsTrue, find, is_some}
use Rattle.std.specs.Str.{bytes_eq}
use Rattle.cf_tree.specs.Datum.{Data}
use Rattle.cf_tree.specs.Lists.{In}
use Rattle.cf_tree.specs.declared.request.Request.{Request}
use Rattle.cf_tree.specs.declared.request.Request.TheVariants as request
use Rattle.cf_tree.specs.declared.row.Action.{Action}
use Rattle.cf_tree.specs.declared.row.Action.TheVariants as action
use Rattle.cf_tree.specs.declared.row.Replacement.{Replacement}
use Rattle.cf_tree.specs.declared.row.Replacement.TheVariants as replacement
use Rattle.cf_tree.specs.declared.row.Row.{Row}
use Rattle.cf_tree.specs.declared.source.Source.{Source}
use Rattle.cf_schema.specs.declared.described.Schema.{Schema}
use Rattle.cf_entry.specs.declared.entry.Begun.{Begun}
use Rattle.cf_entry.specs.declared.entry.Begun.TheVariants as begin
use Rattle.cf_entry.specs.declared.entry.Entry.{Entry}
use Rattle.cf_entry.specs.declared.entry.Entry.TheVariants as entry
use Rattle.cf_entry.specs.declared.status.Status.TheVariants as status
use Rattle.cf_entry.specs.declared.turn.Phase.TheVariants as phase
use Rattle.cf_effect.specs.declared.call.Call.{Call}
use Rattle.cf_effect.specs.declared.held.Held.{Held}
use Rattle.cf_effect.specs.declared.held.Leftover.{Leftover}
use Rattle.cf_effect.specs.World.{StackState, World, known_stack}
use Rattle.cf_effect.specs.Begin.{source_for}
use Rattle.cf_effect.specs.Calls.{own_calls, was_refused}
use Rattle.cf_effect.specs.Status.{Forward, goes_forward, is_in_progress}
use Rattle.cf_effect.specs.Words.{current_at, deletes, is_create}
use Rattle.cf_plan.specs.Accept.{changes_on}
use Rattle.cf_plan.specs.Follow.{MayIntend}
use Rattle.cf_core.specs.Ahead.{IsFreeToBegin}
use Rattle.cf_core.specs.Advancing.{IsAdvancing, IsAsBefore, changes_begun}
use Rattle.cf_core.specs.Fits.{Fits, IsWritten}
use Rattle.cf_core.specs.Hiding.{AreDescribed, IsOrdered}

-- the row of a path
abbrev pub row_at : List ℕ → List Row → Option Row
row_at path rows = find (λ r. bytes_eq path r.path) rows

-- What may be asked for at a path by its row: one that is added is created; one that is modified is updated in place, or replaced, which
-- is to create it anew, or either where that is known only later; nothing is asked for at one that is removed, or that has no row.
abbrev pub IsAsTold : Action → Option Replacement → Request → Type 0
IsAsTold action.Add o (request.Create kind props) = Unit {0}
IsAsTold action.Modify (Some replacement.False) (request.Update physical props) = Unit {0}
IsAsTold action.Modify (Some replacement.True) (request.Create kind props) = Unit {0}
IsAsTold action.Modify (Some replacement.Conditional) (request.Create kind props) = Unit {0}
IsAsTold action.Modify (Some replacement.Conditional) (request.Update physical props) = Unit {0}
IsAsTold _ _ _ = ⊥

abbrev pub IsTold : Option Row → Request → Type 0
IsTold None r = ⊥
IsTold (Some row) r = IsAsTold row.action row.replacement r

-- each call of the forward phase is told by the change set of its operation
abbrev pub IntendedIsTold : Type 0
IntendedIsTold =
    (schemas : List Schema) (name : List ℕ) (x : World) (out : List ℕ) (s : StackState) (source : Source) (token : ℕ) (lane path : List ℕ)
    (r : Request)
    → IsAdvancing schemas s source → Fits x s → IsOrdered s → AreDescribed schemas x
    → MayIntend schemas name x out s Forward token lane path r → IsTold (row_at path (changes_begun schemas s source).rows) r

-- So are all calls that it has made: where it begins it has made none, and each entry of the forward phase keeps it so.
abbrev pub AreTold : List Schema → StackState → Source → Type 0
AreTold schemas s source = (c : Call) → In c s.ledger → IsTold (row_at c.path (changes_begun schemas s source).rows) c.request

abbrev pub CallsBeginTold : Type 0
CallsBeginTold =
    (schemas : List Schema) (x : World) (out : List ℕ) (e : Entry) (name : List ℕ) (s t : StackState) (source : Source)
    → IsWritten schemas x out e name s t → is_in_progress s.status ≡ false → IsTrue (goes_forward t.status) → IsFreeToBegin s
    → AreTold schemas t source

abbrev pub CallsStayTold : Type 0
CallsStayTold =
    (schemas : List Schema) (x : World) (out : List ℕ) (e : Entry) (name : List ℕ) (s t : StackState) (source : Source)
    → IsWritten schemas x out e name s t → IsTrue (goes_forward s.status) → IsTrue (goes_forward t.status) → IsAdvancing schemas s source
    → IsOrdered s → AreDescribed schemas x → AreTold schemas s source → AreTold schemas t source

-- What is made was created at its path by a call of the operation. Where that begins to go forward nothing was made, and each entry keeps
-- it so.
abbrev pub IsMadeByCall : StackState → Held → Type 0
IsMadeByCall s r = (c : Call) × In c s.ledger × (c.path ≡ r.path) × (is_create c.request ≡ true)

abbrev pub AreMadeByCalls : StackState → Type 0
AreMadeByCalls s = (r : Held) → In r s.made → IsMadeByCall s r

abbrev pub MadeBeginCalled : Type 0
MadeBeginCalled =
    (schemas : List Schema) (x : World) (out : List ℕ) (e : Entry) (name : List ℕ) (s t : StackState)
    → IsWritten schemas x out e name s t → goes_forward s.status ≡ false → IsTrue (goes_forward t.status) → AreMadeByCalls t

abbrev pub MadeStayCalled : Type 0
MadeStayCalled =
    (schemas : List Schema) (x : World) (out : List ℕ) (e : Entry) (name : List ℕ) (s t : StackState)
    → IsWritten schemas x out e name s t → IsTrue (goes_forward s.status) → AreMadeByCalls s → AreMadeByCalls t

-- So of a path where something is made the row tells a create.
abbrev pub TellsCreate : Option Row → Type 0
TellsCreate row = (kind : List ℕ) × (props : List (List ℕ × Data)) × IsTold row (request.Create kind props)

abbrev pub MadeIsTold : Type 0
MadeIsTold =
    (schemas : List Schema) (s : StackState) (source : Source) → AreTold schemas s source → AreMadeByCalls s
    → (r : Held) → In r s.made → TellsCreate (row_at r.path (changes_begun schemas s source).rows)

-- What is held at a path, against what was held before: a resource that is none of those; the one that was there, under its id; or the one
-- that was there is superseded, and waits for the cleanup.
abbrev pub IsNewAt : List Held → List Held → List ℕ → Type 0
IsNewAt before now path = (h : Held) × (current_at path now ≡ Some h) × ((b : Held) → In b before → b.physical ≢ h.physical)

abbrev pub IsKeptAt : List Held → List Held → List ℕ → Type 0
IsKeptAt before now path = (b : Held) × (h : Held) × (current_at path before ≡ Some b) × (current_at path now ≡ Some h) × (h.physical ≡ b.physical)

abbrev pub IsSupersededAt : List Held → List Held → List ℕ → Type 0
IsSupersededAt before now path =
    (b : Held) × (r : Held) × (current_at path before ≡ Some b) × In r now × (r.physical ≡ b.physical) × (r.superseded ≡ true)

-- nothing was held there, and nothing is; or it is as it was
abbrev pub IsUnchangedAt : List Held → List Held → List ℕ → Type 0
IsUnchangedAt before now path =
    ((current_at path before ≡ None) × (current_at path now ≡ None))
    ⊎ ((b : Held) × (h : Held) × (current_at path before ≡ Some b) × (current_at path now ≡ Some h) × (h.physical ≡ b.physical) × IsAsBefore b h)

-- What a row tells has come true: where nothing was held a new resource is; the resource is updated in place, and so keeps its id; a new one
-- is in the place of the old one; or one of the two; or none is in its place.
abbrev pub ComesTrue : List Held → List Held → List ℕ → Action → Option Replacement → Type 0
ComesTrue before now path action.Add o = (current_at path before ≡ None) × IsNewAt before now path
ComesTrue before now path action.Modify (Some replacement.False) = IsKeptAt before now path
ComesTrue before now path action.Modify (Some replacement.True) = IsNewAt before now path × IsSupersededAt before now path
ComesTrue before now path action.Modify (Some replacement.Conditional) =
    IsKeptAt before now path ⊎ (IsNewAt before now path × IsSupersededAt before now path)
ComesTrue before now path action.Modify None = ⊥
ComesTrue before now path action.Remove o = (current_at path now ≡ None) × IsSupersededAt before now path

abbrev pub HasComeTrue : List Held → List Held → List ℕ → Option Row → Type 0
HasComeTrue before now path None = IsUnchangedAt before now path
HasComeTrue before now path (Some row) = ComesTrue before now path row.action row.replacement

-- with these entries the forward phase is complete: of an update its cleanup begins, and a creation ends
abbrev pub Completes : Entry → Type 0
Completes (entry.Phase number phase.Clean why) = Unit {0}
Completes (entry.Done number status.CreateComplete failed) = Unit {0}
Completes _ = ⊥

-- where the forward phase is complete, all that the change set of the operation tells has come true
abbrev pub CompletedIsTold : Type 0
CompletedIsTold =
    (schemas : List Schema) (x : World) (out : List ℕ) (e : Entry) (name : List ℕ) (s t : StackState) (source : Source)
    → IsWritten schemas x out e name s t → Completes e → s.status ≢ t.status → IsAdvancing schemas s source → AreTold schemas s source
    → AreMadeByCalls s → (path : List ℕ) → HasComeTrue s.before t.held path (row_at path (changes_begun schemas s source).rows)

-- What is superseded is held until it is deleted, or left over: what its policy keeps, and what could not be deleted. A deletion that finds
-- nothing is none that was refused.
abbrev pub IsDeleted : StackState → List ℕ → Type 0
IsDeleted s physical =
    (c : Call) × In c (own_calls s) × IsTrue (deletes physical c.request) × IsTrue (is_some c.answer) × (was_refused c ≡ false)

abbrev pub IsLeftOver : StackState → List ℕ → Type 0
IsLeftOver s physical = (l : Leftover) × In l s.leftovers × (l.physical ≡ physical)

pub data IsCleanedUp (s : StackState) (physical : List ℕ) : Type 0 where
  waits : (r : Held) → In r s.held → r.physical ≡ physical → r.superseded ≡ true → IsCleanedUp s physical
  deleted : IsDeleted s physical → IsCleanedUp s physical
  left : IsLeftOver s physical → IsCleanedUp s physical

-- All calls that a stack lists are of its last operation. So it is as the cleanup of an update begins.
abbrev pub HasOwnCalls : StackState → Type 0
HasOwnCalls s = (c : Call) → In c s.ledger → c.number ≡ s.operation

abbrev pub CleanupBeginsTold : Type 0
CleanupBeginsTold =
    (schemas : List Schema) (x : World) (out : List ℕ) (e : Entry) (name : List ℕ) (s t : StackState) (source : Source)
    → IsWritten schemas x out e name s t → s.status ≡ status.UpdateInProgress → t.status ≡ status.UpdateCompleteCleanupInProgress
    → IsAdvancing schemas s source → HasOwnCalls t

-- What is cleaned up stays so at each moment of the cleanup of an update, and as that ends; that nothing waits then is TidyingEnds.
abbrev pub CleanupIsTold : Type 0
CleanupIsTold =
    (schemas : List Schema) (x : World) (out : List ℕ) (e : Entry) (name : List ℕ) (s t : StackState) → IsWritten schemas x out e name s t
    → s.status ≡ status.UpdateCompleteCleanupInProgress → HasOwnCalls s
    → HasOwnCalls t × ((physical : List ℕ) → IsCleanedUp s physical → IsCleanedUp t physical)

-- the source of an operation that creates or updates, as the operation works by it
abbrev pub source_begun : World → List ℕ → Begun → Option Source
source_begun x name (begin.Create source) = Some (source_for name (x.operation + 1) source)
source_begun x name (begin.Update source) = Some (source_for name (known_stack name x).number source)
source_begun x name k = None

-- As an operation begins, its change set has the rows of what its source changes of the stack.
abbrev pub BegunIsTold : Type 0
BegunIsTold =
    (schemas : List Schema) (x : World) (out : List ℕ) (number : ℕ) (name : List ℕ) (k : Begun) (s t : StackState) (source : Source)
    → IsWritten schemas x out (entry.Begin number name k) name s t → source_begun x name k ≡ Some source
    → (changes_begun schemas t source).rows ≡ (changes_on schemas name x s source).rows
