-- An operation that goes forward goes on so: behind each entry of its forward phase what it has made and updated is what its
-- template says, as it was when it began (User Guide: references are resolved in the order of work; the laws are this project's own).
use Rattle.std.specs.Prelude.{◌≡◌, ◌||◌, ℕ, false, List, [], IsTrue}
use Rattle.cf_tree.specs.declared.request.Request.{Request}
use Rattle.cf_tree.specs.declared.source.Source.{Source}
use Rattle.cf_entry.specs.declared.entry.Entry.{Entry}
use Rattle.cf_entry.specs.declared.status.Status.TheVariants as status
use Rattle.cf_schema.specs.declared.described.Schema.{Schema}
use Rattle.cf_effect.specs.World.{StackState, World}
use Rattle.cf_effect.specs.Status.{Forward, goes_forward, is_in_progress}
use Rattle.cf_plan.specs.Accept.{creates_from}
use Rattle.cf_plan.specs.Follow.{MayIntend, updates_from}
use Rattle.cf_core.specs.Advancing.{AreSingle, IsAdvancing, IsHidden, changes_begun}
use Rattle.cf_core.specs.Course.{IsOnCourse}
use Rattle.cf_core.specs.Fits.{IsWritten}
use Rattle.cf_core.specs.Hiding.{AreDescribed, IsOrdered, RestIsSeen}

-- What is shown besides of a stack that goes forward, and of an entry on it: a call that may be written down was hidden by the
-- change set; and behind the entry what the change set did not hide is still seen.
pub record HasHidden (schemas : List Schema) (x : World) (out : List ℕ) (name : List ℕ) (s t : StackState) (source : Source) : Type 0 where
  pub calls :
      (token : ℕ) (lane path : List ℕ) (r : Request) → MayIntend schemas name x out s Forward token lane path r
      → IsHidden (changes_begun schemas s source).rows s path r
  pub rest : RestIsSeen schemas t source

-- the forward phase goes on behind an entry
pub record StaysForward (schemas : List Schema) (s t : StackState) (source : Source) : Type 0 where
  pub status : t.status ≡ s.status
  pub before : t.before ≡ s.before
  pub advancing : IsAdvancing schemas t source

-- so it does behind every entry, be it of the stack or not, that leaves it a status of the forward phase
abbrev pub AdvancingGoesOn : Type 0
AdvancingGoesOn =
    (schemas : List Schema) (x : World) (out : List ℕ) (e : Entry) (name : List ℕ) (s t : StackState) (source : Source)
    → IsWritten schemas x out e name s t → IsTrue (goes_forward s.status) → IsTrue (goes_forward t.status) → IsAdvancing schemas s source
    → HasHidden schemas x out name s t source → StaysForward schemas s t source

-- The same without what is shown besides: it is told by the change set, where properties stand in the order of their names and each
-- type of the lanes has a schema.
abbrev pub AdvancingStays : Type 0
AdvancingStays =
    (schemas : List Schema) (x : World) (out : List ℕ) (e : Entry) (name : List ℕ) (s t : StackState) (source : Source)
    → IsWritten schemas x out e name s t → IsTrue (goes_forward s.status) → IsTrue (goes_forward t.status) → IsAdvancing schemas s source
    → IsOrdered s → AreDescribed schemas x → StaysForward schemas s t source

-- where a creation or an update may begin no call is open and each resource is the one of its path
abbrev pub IsFreeToBegin : StackState → Type 0
IsFreeToBegin s = IsTrue (creates_from s.status || updates_from s.status) → (s.tokens ≡ []) × AreSingle s.held

-- a stack has begun to go forward, from a status that lets it
pub record HasBegunForward (schemas : List Schema) (s t : StackState) (source : Source) : Type 0 where
  pub creates : t.status ≡ status.CreateInProgress → IsTrue (creates_from s.status)
  pub updates : t.status ≡ status.UpdateInProgress → IsTrue (updates_from s.status)
  pub before : t.before ≡ s.held
  pub advancing : IsAdvancing schemas t source

-- it has where its status is one of the forward phase, and was none of an operation in progress
abbrev pub AdvancingBegins : Type 0
AdvancingBegins =
    (schemas : List Schema) (x : World) (out : List ℕ) (e : Entry) (name : List ℕ) (s t : StackState) → IsWritten schemas x out e name s t
    → is_in_progress s.status ≡ false → IsTrue (goes_forward t.status) → IsFreeToBegin s → (source : Source)
    × HasBegunForward schemas s t source

-- a stack in its course is free to begin
abbrev pub CourseIsFree : Type 0
CourseIsFree = (schemas : List Schema) (name : List ℕ) (x : World) (s : StackState) → IsOnCourse schemas name x s s.status → IsFreeToBegin s
