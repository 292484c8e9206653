-- Which events of a life each call of a book is (this project's own). A call on a lane is made by its lease, outside of the book: it is
-- told as the lane comes home, with the late effects that came before it.
use Rattle.std.specs.Prelude.{◌≡◌, ◌⊎◌, ◌≢◌, ℕ, List, [], ◌∷◌, ◌++◌, map, Option, Some, None, Result, Ok, Err, ⊤}
use Rattle.cf_handler.specs.Fence.{Left}
use Rattle.cf_handler.specs.Tells.{LateEffect}
use Rattle.cf_tree.specs.declared.request.Answer.{Answer}
use Rattle.cf_tree.specs.declared.request.Answer.TheVariants as answer
use Rattle.cf_entry.specs.declared.entry.Entry.{Entry}
use Rattle.cf_entry.specs.declared.entry.Entry.TheVariants as entry
use Rattle.cf_entry.specs.declared.entry.Reply.{Reply}
use Rattle.cf_entry.specs.declared.entry.Reply.TheVariants as reply
use Rattle.cf_lane.specs.declared.told.Told.{Told}
use Rattle.cf_schema.specs.declared.described.Schema.{Schema}
use Rattle.cf_plan.specs.Life.{Answered, BrokenWith, BrokenWithout, Whole, Act, End, Event, Late, Life, Park, Settle}
use Rattle.cf_book.specs.Lives.{LeadsTo}
use Rattle.cf_book.specs.State.{BookNow}
use Rattle.cf_book.specs.declared.stop.StopFault.{StopFault}
use Rattle.cf_book.specs.declared.stop.StopFault.TheVariants as stop

-- a late effect on a lane
abbrev pub late_on : List ℕ → LateEffect → Event
late_on name effect = Late name effect.place effect.settlement

-- late effects on a lane, and then the call that was made on it
pub record IsCallMade (name : List ℕ) (told : Told) (events : List Event) : Type 0 where
  pub effects : List LateEffect
  pub left : Left
  pub are : events ≡ map (late_on name) effects ++ Act told.token (Answered told.answer told.before told.after) left ∷ []

-- what is written of an answer; of want of memory and of a call that was too old nothing is
abbrev pub reply_for : Answer → Option Reply
reply_for (answer.Success physical attrs) = Some (reply.Success physical attrs)
reply_for (answer.Failed code) = Some (reply.Failed code)
reply_for answer.Fault = Some reply.Doubt
reply_for (answer.Stale fence) = None
reply_for answer.NoMemory = None

-- the outcome of a call
abbrev pub outcome_by : Told → Reply → Entry
outcome_by told r = entry.Outcome told.number told.token r told.before told.after

-- How an append ends, by what is answered: whole or broken, and after a fault of the disk with the entry or without it.
abbrev pub MayEnd : {T : Type 0} → Result T StopFault → End → Type 0
MayEnd (Ok x) end = end ≡ Whole
MayEnd (Err stop.DiskFault) end = (end ≡ BrokenWith) ⊎ (end ≡ BrokenWithout)
MayEnd (Err _) end = end ≡ BrokenWithout

-- A lane came home from its call, and the call was parked.
abbrev pub ParksCall : {D : Type 0} → List Schema → Life → BookNow D → List ℕ → Told → Type 0
ParksCall schemas life new name told =
    (calls : List Event) × IsCallMade name told calls × LeadsTo schemas life (calls ++ Park told.token ∷ []) new

-- A lane came home from its call, and the outcome was written, whole or broken.
abbrev pub SettlesCall : {D T : Type 0} → List Schema → Life → BookNow D → List ℕ → Told → Reply → Result T StopFault → Type 0
SettlesCall schemas life new name told r result =
    (calls : List Event) × IsCallMade name told calls
    × ((end : End) → MayEnd result end → LeadsTo schemas life (calls ++ Settle told.token (outcome_by told r) end ∷ []) new)
