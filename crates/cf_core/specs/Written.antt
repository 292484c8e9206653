-- What an entry is to a stack: it is a step of the operation in progress, begins one, keeps a change set, opens the engine anew, or
-- is of another stack (this project's own).
use Rattle.std.specs.Prelude.{◌≡◌, ℕ, ◌+◌, Bool, ◌||◌, IsTrue, List, Some}
use Rattle.cf_tree.specs.declared.source.Source.{Source}
use Rattle.cf_tree.specs.declared.row.Row.{Row}
use Rattle.cf_entry.specs.declared.entry.Entry.{Entry}
use Rattle.cf_entry.specs.declared.entry.Entry.TheVariants as entry
use Rattle.cf_entry.specs.declared.entry.Begun.{Begun}
use Rattle.cf_schema.specs.declared.described.Schema.{Schema}
use Rattle.cf_effect.specs.World.{StackState, World}
use Rattle.cf_effect.specs.Fold.{effect_at}
use Rattle.cf_effect.specs.Status.{Stage, stage_of}
use Rattle.cf_plan.specs.Accept.{creates_from}
use Rattle.cf_plan.specs.Follow.{BeginsBy, MayFollowIn, begins_from, updates_from}
use Rattle.cf_plan.specs.Run.{IsOwn}
use Rattle.cf_core.specs.Fits.{IsWritten}

-- the stack s becomes t by it
pub data IsTo (schemas : List Schema) (x : World) (out : List ℕ) (name : List ℕ) (s : StackState) : Entry → StackState → Type 0 where
  step :
      {e : Entry} (stage : Stage) → stage_of s.status ≡ Some stage → IsOwn s.operation e → MayFollowIn schemas name x out s stage e
      → IsTo schemas x out name s e (effect_at (x.place + 1) e s).stack
  begins :
      (k : Begun) → IsTrue (begins_from k s.status) → BeginsBy schemas name x (x.operation + 1) s k
      → IsTo schemas x out name s (entry.Begin (x.operation + 1) name k) (effect_at (x.place + 1) (entry.Begin (x.operation + 1) name k)
      s).stack
  reviewed :
      (number : ℕ) (source : Source) (rows : List Row) (outputs : Bool) → IsTrue (creates_from s.status || updates_from s.status)
      → IsTo schemas x out name s (entry.ChangeSet number name source rows outputs) (effect_at (x.place + 1) (entry.ChangeSet number name
      source rows outputs) s).stack
  opened :
      (epoch : ℕ) (lanes : List (List ℕ × List ℕ))
      → IsTo schemas x out name s (entry.Opened epoch lanes) (effect_at (x.place + 1) (entry.Opened epoch lanes) s).stack
  other : {e : Entry} → IsTo schemas x out name s e s

-- so it is where the entry is written
abbrev pub WrittenIsTo : Type 0
WrittenIsTo =
    (schemas : List Schema) (x : World) (out : List ℕ) (e : Entry) (name : List ℕ) (s t : StackState) → IsWritten schemas x out e name s t
    → IsTo schemas x out name s e t
