-- What an entry that is written does to the operation of a stack (this project's own).
use Rattle.std.specs.Prelude.{◌≡◌, ℕ, ◌+◌, Bool, ◌||◌, IsTrue, List, Option, Some}
use Rattle.cf_tree.specs.declared.source.Source.{Source}
use Rattle.cf_tree.specs.declared.row.Row.{Row}
use Rattle.cf_entry.specs.declared.entry.Entry.{Entry}
use Rattle.cf_entry.specs.declared.entry.Entry.TheVariants as entry
use Rattle.cf_entry.specs.declared.entry.Begun.{Begun}
use Rattle.cf_entry.specs.declared.status.Status.{Status}
use Rattle.cf_entry.specs.declared.turn.Phase.{Phase}
use Rattle.cf_entry.specs.declared.turn.Cause.{Cause}
use Rattle.cf_schema.specs.declared.described.Schema.{Schema}
use Rattle.cf_effect.specs.World.{StackState, World}
use Rattle.cf_effect.specs.Fold.{effect_at, stack_for}
use Rattle.cf_effect.specs.Status.{Stage, stage_of}
use Rattle.cf_plan.specs.Accept.{creates_from}
use Rattle.cf_plan.specs.Follow.{BeginsBy, MayFollowIn, MayTurn, begins_from, updates_from}

-- It goes on in its phase, enters a later one, or ends; an operation begins, a change set is kept, or another stack changes.
pub data IsMove (schemas : List Schema) (x : World) (out : List ℕ) (name : List ℕ) (s : StackState) : Entry → StackState → Type 0 where
  stays : {e : Entry} {t : StackState} → t.status ≡ s.status → IsMove schemas x out name s e t
  turns :
      (number : ℕ) (p : Phase) (why : Option Cause) → stack_for (entry.Phase number p why) x ≡ Some (name, s)
      → MayTurn schemas name x s p why
      → IsMove schemas x out name s (entry.Phase number p why) (effect_at (x.place + 1) (entry.Phase number p why) s).stack
  ends :
      (number : ℕ) (state : Status) (failed : List (List ℕ)) (stage : Stage) → stack_for (entry.Done number state failed) x ≡ Some (name, s)
      → stage_of s.status ≡ Some stage → MayFollowIn schemas name x out s stage (entry.Done number state failed)
      → IsMove schemas x out name s (entry.Done number state failed) (effect_at (x.place + 1) (entry.Done number state failed) s).stack
  begins :
      (k : Begun) → IsTrue (begins_from k s.status) → BeginsBy schemas name x (x.operation + 1) s k
      → IsMove schemas x out name s (entry.Begin (x.operation + 1) name k) (effect_at (x.place + 1) (entry.Begin (x.operation + 1) name k)
      s).stack
  reviewed :
      (number : ℕ) (source : Source) (rows : List Row) (outputs : Bool) → IsTrue (creates_from s.status || updates_from s.status)
      → IsMove schemas x out name s (entry.ChangeSet number name source rows outputs) (effect_at (x.place + 1) (entry.ChangeSet number name
      source rows outputs) s).stack
  other : {e : Entry} → IsMove schemas x out name s e s
