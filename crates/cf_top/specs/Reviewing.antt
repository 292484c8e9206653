-- What the review of a template comes to: a change set is kept in the journal, or nothing is (User Guide: change sets; the order of the
-- refusals, and what a disk's fault leaves in doubt, is this project's own).
use Rattle.std.specs.Prelude.{◌≡◌, ◌⊎◌, ℕ, ◌+◌, ◌<◌, ◌≤◌, List, [], ◌∷◌, ◌++◌, Option, Some, None, Ok, Err, Result, IsTrue}
use Rattle.cf_tree.specs.Counts.{HasRisen}
use Rattle.cf_disk.specs.Disk.{LeavesOnly}
use Rattle.cf_disk.specs.declared.disk.Disk.{Ghosts as DiskGhosts}
use Rattle.cf_schema.specs.declared.described.Schema.{Schema}
use Rattle.cf_entry.specs.declared.entry.Entry.{Entry}
use Rattle.cf_entry.specs.declared.entry.Entry.TheVariants as entry
use Rattle.cf_io.specs.Library.{StandsUnder}
use Rattle.cf_journal.specs.Record.{IsOldOrKept, KeepsRecord, length_of, record_of}
use Rattle.cf_effect.specs.World.{World}
use Rattle.cf_plan.specs.Follow.{MayFollow}
use Rattle.cf_plan.specs.Life.{IsChangeSet}
use Rattle.cf_prepare.specs.Orders.{IsReview}
use Rattle.cf_prepare.specs.Prepare.{MayFollowNow}
use Rattle.cf_prepare.specs.declared.wish.Order.{Order}
use Rattle.cf_prepare.specs.declared.wish.Order.TheVariants as order
use Rattle.cf_book.specs.Record.{Fits, HasKnown, IsKnown, need_of, world_left}
use Rattle.cf_face.specs.Exit.{ending_text}
use Rattle.cf_face.specs.Print.{PrintTells}
use Rattle.cf_face.specs.SetReport.{set_report}
use Rattle.cf_face.specs.declared.exit.Exit.{Exit}
use Rattle.cf_face.specs.declared.exit.Exit.TheVariants as exit
use Rattle.cf_face.specs.declared.words.Choice.{Choice}
use Rattle.cf_top.specs.Crash.{CrashLeaves, MayDoubt, WroteNothing}
use Rattle.cf_top.specs.Opening.{HasOpenCause, Holds}
use Rattle.cf_top.specs.Outside.{Printing}
use Rattle.cf_top.specs.Refusals.{IsUnasked, LibraryUse, RefusesChoice, chosen_refusal, deployed_source}
use Rattle.cf_top.specs.Tasks.{status_refusal}
use Rattle.cf_top.specs.declared.planning.Purpose.TheVariants as purpose

-- The change set that is made of the template that is found in the library: what this would change of the stack, by the next number. It
-- may follow, whatever calls are out.
pub record ReviewsBy (o : LibraryUse) (schemas : List Schema) (x : World) (name : List ℕ) (choice : Choice) (set : Entry) : Type 0 where
  pub free : status_refusal name x ≡ None
  pub bytes : List ℕ
  pub stands : StandsUnder o.texts choice.template (Some bytes)
  pub sound : chosen_refusal purpose.Review schemas x name choice (Some bytes) ≡ None
  pub is_review : IsReview schemas x name (deployed_source name choice bytes) (order.Review set)
  pub may : MayFollowNow schemas x set

-- what is found out of a review: the set, or why there is none
abbrev pub FindsReview : LibraryUse → List Schema → World → List ℕ → Choice → Result Entry Exit → Type 0
FindsReview o schemas x name choice (Ok set) = ReviewsBy o schemas x name choice set
FindsReview o schemas x name choice (Err e) = RefusesChoice o purpose.Review schemas x name choice (status_refusal name x) e

-- an order that keeps a change set
abbrev pub OrdersASet : Order → Type 0
OrdersASet (order.Review e) = IsChangeSet e
OrdersASet _ = ⊥

-- A change set is appended to the entries of a disk; or there is no room or no memory for it, and nothing is written; or the disk fails,
-- and may have it.
abbrev pub WritesSet : {D A : Type 0} → DiskGhosts D → D → D → List Entry → Entry → Result A Exit → Type 0
WritesSet g old new es set (Ok u) = IsKnown g new (es ++ set ∷ []) None × Fits g old set
WritesSet g old new es set (Err (exit.Full l need room)) =
    (new ≡ old) × (IsTrue g.tells → length_of (g.seen old) ≡ l) × (need ≡ need_of set) × (room ≡ g.room_of old) × (room < l + need)
WritesSet g old new es set (Err exit.DiskFault) = IsKnown g new es (Some set) × HasRisen (g.count old) (g.count new) × Fits g old set
WritesSet g old new es set (Err exit.NoMemory) = new ≡ old
WritesSet g old new es set (Err e) = ⊥

-- what is printed then: the report on the change set, or the exit
abbrev pub review_text : List ℕ → Entry → List ℕ
review_text name (entry.ChangeSet number stack source rows outputs) = set_report name number rows outputs exit.Done
review_text name e = []

abbrev pub wrote_text : {A : Type 0} → List ℕ → Entry → Result A Exit → List ℕ
wrote_text name set (Ok u) = review_text name set
wrote_text name set (Err e) = ending_text e

abbrev pub wrote_exit : {A : Type 0} → Result A Exit → Exit
wrote_exit (Ok u) = exit.Done
wrote_exit (Err e) = e

-- a change set is appended to these entries, or could not be, and that is printed
abbrev pub KeepsSet : {D : Type 0} → DiskGhosts D → Printing → D → D → List Entry → List ℕ → Entry → Exit → Type 0
KeepsSet g p old new es name set result =
    (wrote : Result (Unit {0}) Exit) × WritesSet g old new es set wrote
    × PrintTells p.held p.held' p.faults p.faults' (wrote_text name set wrote) (wrote_exit wrote) result

-- a disk whose journal was opened: it has these entries, as it had, and nothing else was written at any moment
pub record WasOpened {D : Type 0} (g : DiskGhosts D) (old opened : D) (es : List Entry) : Type 0 where
  pub held : Holds g.tells (g.seen old) es
  pub holds : Holds g.tells (g.seen opened) es
  pub kept : IsTrue g.tells → KeepsRecord (g.seen old) (g.seen opened)
  pub moments : IsTrue g.tells → LeavesOnly g.moment g.left_since old opened (IsOldOrKept (g.may_leave old) (g.seen old))
  pub room : g.room_of opened ≡ g.room_of old

-- a file that a crash might have left before, or with the same record, or with that and the change set
abbrev pub IsOldOrWithSet : (List ℕ → Type 0) → List ℕ → List Entry → Entry → List ℕ → Type 0
IsOldOrWithSet may_leave bytes old set file = IsOldOrKept may_leave bytes file ⊎ HasKnown old (Some set) file

-- A review: the journal was not opened; or the review was refused, and nothing is written; or its change set is, or could not be. What it
-- came to is printed. At each moment a crash leaves what it might have left before, or the same record; or that with this change set.
pub data Reviews {D : Type 0} (g : DiskGhosts D) (o : LibraryUse) (p : Printing) (schemas : List Schema) (old new : D) (name : List ℕ)
    (choice : Choice) (result : Exit) : Type 0 where
  closed :
      (e : Exit) → HasOpenCause g.tells (g.seen old) (g.count old) (g.count new) e → IsUnasked o
      → (IsTrue g.tells → KeepsRecord (g.seen old) (g.seen new))
      → (IsTrue g.tells → LeavesOnly g.moment g.left_since old new (IsOldOrKept (g.may_leave old) (g.seen old)))
      → PrintTells p.held p.held' p.faults p.faults' (ending_text e) e result → Reviews g o p schemas old new name choice result
  refused :
      (es : List Entry) (e : Exit) → WasOpened g old new es
      → RefusesChoice o purpose.Review schemas (world_left es) name choice (status_refusal name (world_left es)) e
      → PrintTells p.held p.held' p.faults p.faults' (ending_text e) e result → Reviews g o p schemas old new name choice result
  reviewed :
      (es : List Entry) (opened : D) (set : Entry) → WasOpened g old opened es → ReviewsBy o schemas (world_left es) name choice set
      → KeepsSet g p opened new es name set result
      → (IsTrue g.tells → LeavesOnly g.moment g.left_since old new (IsOldOrWithSet (g.may_leave old) (g.seen old) es set))
      → Reviews g o p schemas old new name choice result

-- a change set is known to be the entry after these; or it is in doubt, where the disk failed
abbrev pub IsWrittenOrDoubted : List Entry → Entry → List Entry → Option Entry → Exit → Type 0
IsWrittenOrDoubted old set known doubt e =
    ((known ≡ old ++ set ∷ []) × (doubt ≡ None)) ⊎ ((known ≡ old) × (doubt ≡ Some set) × MayDoubt e)

-- What is left of the journal by a review: no entry was written; or one change set was, which may follow, or it is in doubt where the disk
-- failed.
pub record LeavesSet (schemas : List Schema) (bytes bytes' : List ℕ) (may_leave : List ℕ → Type 0) (e : Exit) : Type 0 where
  pub old : List Entry
  pub set : Entry
  pub known : List Entry
  pub doubt : Option Entry
  pub was : record_of bytes ≡ Ok old
  pub is_set : IsChangeSet set
  pub may : MayFollow schemas (world_left old) [] set
  pub which : IsWrittenOrDoubted old set known doubt e
  pub stays : HasKnown known doubt bytes'
  pub each : (file : List ℕ) → may_leave file → HasKnown known doubt file

abbrev pub LeavesAtMostOneSet : List Schema → List ℕ → List ℕ → (List ℕ → Type 0) → (List ℕ → Type 0) → Exit → Type 0
LeavesAtMostOneSet schemas bytes bytes' before may_leave e =
    WroteNothing bytes bytes' before may_leave ⊎ LeavesSet schemas bytes bytes' may_leave e

-- At each moment of a review a crash leaves what it might have left before, or the same record; or there is one change set, which may
-- follow, and it may leave the record with that too. `Reviews` says which: the one that is printed, and that the disk has in the end.
pub data AddsOneSet {D : Type 0} (g : DiskGhosts D) (schemas : List Schema) (disk disk' : D) : Type 0 where
  none : LeavesOnly g.moment g.left_since disk disk' (IsOldOrKept (g.may_leave disk) (g.seen disk)) → AddsOneSet g schemas disk disk'
  one :
      (old : List Entry) (set : Entry) → record_of (g.seen disk) ≡ Ok old → IsChangeSet set → MayFollow schemas (world_left old) [] set
      → LeavesOnly g.moment g.left_since disk disk' (IsOldOrWithSet (g.may_leave disk) (g.seen disk) old set)
      → AddsOneSet g schemas disk disk'
