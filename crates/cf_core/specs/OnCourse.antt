-- Every entry that is written leaves a stack on its course, stage by stage (this project's own).
use Rattle.std.specs.Prelude.{◌≡◌, ℕ, true, List}
use Rattle.cf_entry.specs.declared.entry.Entry.{Entry}
use Rattle.cf_entry.specs.declared.status.Status.TheVariants as status
use Rattle.cf_schema.specs.declared.described.Schema.{Schema}
use Rattle.cf_effect.specs.World.{StackState, World}
use Rattle.cf_effect.specs.Fold.{world_after}
use Rattle.cf_effect.specs.Status.{goes_forward}
use Rattle.cf_core.specs.Back.{SkipsNone}
use Rattle.cf_core.specs.Course.{Course}
use Rattle.cf_core.specs.Fits.{IsWritten}
use Rattle.cf_core.specs.GoesOn.{IsTold}
use Rattle.cf_core.specs.Hiding.{AreDescribed, IsOrdered}
use Rattle.cf_core.specs.More.{CompletesBegun, LeavesOnce, ListsGivenUp}
use Rattle.cf_core.specs.OneStack.{IsOnce}
use Rattle.cf_core.specs.Tidying.{HasNoDeletion, HasTriesLeft, deletes_nothing}
use Rattle.cf_core.specs.Tokens.{HasFewCalls}

-- what an operation rests on in all its stages: properties stand in order, an update that goes forward was not continued, nothing is
-- deleted before a cleanup, what an open call deletes was not refused three times, and entries and ledger of a forward phase say so of
-- each other; what completed is what was begun, what was given up is listed, nothing is left over twice, and no path is called under
-- more tokens than its stages give it
pub record IsSupported (s : StackState) : Type 0 where
  pub ordered : IsOrdered s
  pub skips_none : s.status ≡ status.UpdateInProgress → SkipsNone s
  pub undeleted : deletes_nothing s.status ≡ true → HasNoDeletion s
  pub tries : HasTriesLeft s
  pub told : goes_forward s.status ≡ true → IsTold s
  pub completes : CompletesBegun s
  pub lists : ListsGivenUp s
  pub leaves : LeavesOnce s
  pub few : HasFewCalls s

pub record IsOnWay (schemas : List Schema) (name : List ℕ) (x : World) (s : StackState) : Type 0 where
  pub course : Course schemas name x s
  pub supported : IsSupported s

abbrev pub WayIsKept : Type 0
WayIsKept =
    (schemas : List Schema) (x : World) (out : List ℕ) (e : Entry) (name : List ℕ) (s t : StackState) → IsWritten schemas x out e name s t
    → AreDescribed schemas x → IsOnce s → IsOnWay schemas name x s → IsOnWay schemas name (world_after x e) t
