-- The rollback of a creation, and the ends that leave nothing (User Guide: ROLLBACK_COMPLETE, DELETE_COMPLETE; the laws are this
-- project's own).
use Rattle.std.specs.Prelude.{◌≡◌, ℕ, Bool, true, false, IsTrue, List, []}
use Rattle.cf_tree.specs.declared.source.Source.{Source}
use Rattle.cf_entry.specs.declared.entry.Entry.{Entry}
use Rattle.cf_entry.specs.declared.entry.Entry.TheVariants as entry
use Rattle.cf_entry.specs.declared.status.Status.{Status}
use Rattle.cf_entry.specs.declared.status.Status.TheVariants as status
use Rattle.cf_schema.specs.declared.described.Schema.{Schema}
use Rattle.cf_effect.specs.World.{StackState, World}
use Rattle.cf_effect.specs.Fold.{effect_at}
use Rattle.cf_effect.specs.Status.{Stage, is_in_progress}
use Rattle.cf_plan.specs.Ends.{IsCleared}
use Rattle.cf_plan.specs.Follow.{MayFollowIn}
use Rattle.cf_core.specs.Advancing.{IsAdvancing}
use Rattle.cf_core.specs.Course.{IsUnmaking}
use Rattle.cf_core.specs.Fits.{IsWritten}

-- the statuses in which an operation ends that leaves nothing
abbrev pub leaves_nothing : Status → Bool
leaves_nothing status.RollbackComplete = true
leaves_nothing status.DeleteComplete = true
leaves_nothing _ = false

abbrev pub EndsCleared : Type 0
EndsCleared =
    (schemas : List Schema) (name : List ℕ) (x : World) (out : List ℕ) (s : StackState) (stage : Stage) (place number : ℕ) (state : Status)
    (failed : List (List ℕ))
    → MayFollowIn schemas name x out s stage (entry.Done number state failed) → IsTrue (leaves_nothing state)
    → IsCleared (effect_at place (entry.Done number state failed) s).stack

-- nothing is held while a creation goes forward
abbrev pub UnmakingBegins : Type 0
UnmakingBegins = (schemas : List Schema) (s : StackState) (source : Source) → IsAdvancing schemas s source → s.before ≡ [] → IsUnmaking s

-- and so it stays at each entry that leaves the creation to be rolled back
abbrev pub UnmakingStays : Type 0
UnmakingStays =
    (schemas : List Schema) (x : World) (out : List ℕ) (e : Entry) (name : List ℕ) (s t : StackState) → IsWritten schemas x out e name s t
    → t.status ≡ status.RollbackInProgress → IsUnmaking s → IsUnmaking t

-- a stack on which nothing is left stays so until an operation begins
abbrev pub ClearedStays : Type 0
ClearedStays =
    (schemas : List Schema) (x : World) (out : List ℕ) (e : Entry) (name : List ℕ) (s t : StackState) → IsWritten schemas x out e name s t
    → is_in_progress s.status ≡ false → is_in_progress t.status ≡ false → IsCleared s → IsCleared t × (t.before ≡ s.before)
