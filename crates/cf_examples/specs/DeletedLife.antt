-- A life with a deletion that nobody knows of: the stack of the first life is deleted, its resource is gone, and the engine is
-- gone before that is written down. In the next opening the deletion is called again, and answers as it did (this project's own).
use Rattle.std.specs.Prelude.{List, [], ◌∷◌, ◌++◌, codes, true, false}
use Rattle.cf_tree.specs.declared.request.Answer.TheVariants as answer
use Rattle.cf_tree.specs.declared.request.Request.TheVariants as request
use Rattle.cf_handler.specs.declared.settled.Settled.{Settled}
use Rattle.cf_handler.specs.declared.settled.Settlement.TheVariants as settlement
use Rattle.cf_handler.specs.declared.fence.FenceAnswer.TheVariants.{Raised}
use Rattle.cf_handler.specs.Fence.{Untouched, SettledBy}
use Rattle.cf_entry.specs.declared.entry.Entry.{Entry}
use Rattle.cf_entry.specs.declared.entry.Entry.TheVariants as entry
use Rattle.cf_entry.specs.declared.entry.Begun.TheVariants as begin
use Rattle.cf_entry.specs.declared.entry.Reply.TheVariants as reply
use Rattle.cf_entry.specs.declared.status.Status.TheVariants as status
use Rattle.cf_effect.specs.World.{empty_world}
use Rattle.cf_effect.specs.Fold.{fold_of}
use Rattle.cf_plan.specs.Life.{Life, Event, CallEnd, Opened, Begin, Grant, Repeat, Settle, Raise, Act, Close, Crash, Whole, Answered, IsLife}
use Rattle.cf_examples.specs.Given.{file, schemas}
use Rattle.cf_examples.specs.FirstResource.{run}
use Rattle.cf_examples.specs.FirstLife.{made, files_with}
use Rattle.cf_examples.specs.FirstLife as first
use Rattle.cf_examples.specs.CrashedLife.{opened_again}
use Rattle.cf_examples.specs.PutBackLife.{opened_once_more}
use Rattle.cf_examples.specs.Ends.{IsPromised, call}

abbrev pub deleting : Entry
deleting = entry.Begin 2 (codes "app") (begin.Delete [])

abbrev pub intended_gone : Entry
intended_gone = entry.Intent 2 2 (codes "f1") (codes "Web") (request.Delete (codes "f1:1"))

abbrev pub gone : Entry
gone = entry.Outcome 2 2 (reply.Success (codes "f1:1") []) 0 0

abbrev pub deleted : Entry
deleted = entry.Done 2 status.DeleteComplete []

-- the deletion, as it is settled, and as it answers
abbrev pub removed : Settled
removed = call 2 (request.Delete (codes "f1:1")) (settlement.Success (codes "f1:1") [])

abbrev pub answer_gone : CallEnd
answer_gone = Answered (answer.Success (codes "f1:1") []) 0 0

abbrev pub until_crashed : List Event
until_crashed =
    Opened 2 ((codes "f1", file) ∷ []) Whole ∷ Raise (codes "f1") Raised true 0 0 ∷ Begin deleting Whole ∷ Grant intended_gone Whole
    ∷ Act 2 answer_gone (SettledBy removed.settlement) ∷ Crash ∷ []

-- the stack holds a resource that is gone
abbrev pub unknown : Life
unknown =
    record {
      entries = run ++ opened_again ∷ deleting ∷ intended_gone ∷ [];
      lanes = files_with (made ∷ removed ∷ []) [] 2 ∷ [];
      leases = [];
      is_open = false;
      has_granted = false;
      is_stopped = false;
    }

abbrev pub Crashes : Type 0
Crashes = IsLife schemas first.end until_crashed unknown

abbrev pub from_then_on : List Event
from_then_on =
    Opened 3 ((codes "f1", file) ∷ []) Whole ∷ Raise (codes "f1") Raised true 0 0 ∷ Repeat 2 ∷ Act 2 answer_gone Untouched
    ∷ Settle 2 gone Whole ∷ Grant deleted Whole ∷ Close ∷ []

abbrev pub end : Life
end =
    record {
      entries = unknown.entries ++ opened_once_more ∷ gone ∷ deleted ∷ [];
      lanes = files_with (made ∷ removed ∷ []) [] 3 ∷ [];
      leases = [];
      is_open = false;
      has_granted = true;
      is_stopped = false;
    }

abbrev pub GoesOn : Type 0
GoesOn = IsLife schemas unknown from_then_on end

abbrev pub EndsAsPromised : Type 0
EndsAsPromised = IsPromised (codes "app") (fold_of empty_world end.entries) end.lanes
