-- A life with a lane that an opening leaves out: a creation stays in doubt until its stack is deleted without it, the next
-- opening hands in another lane, and the creation acts on the first one while the stack is made anew on the second (this project's own).
use Rattle.std.specs.Prelude.{ℕ, List, [], ◌∷◌, ◌++◌, codes, true, false}
use Rattle.cf_tree.specs.declared.request.Answer.TheVariants as answer
use Rattle.cf_tree.specs.declared.request.Request.TheVariants as request
use Rattle.cf_handler.specs.declared.settled.Settled.{Settled}
use Rattle.cf_handler.specs.declared.settled.Settlement.TheVariants as settlement
use Rattle.cf_handler.specs.declared.fence.FenceAnswer.TheVariants.{Raised, Ahead, Fault}
use Rattle.cf_handler.specs.Fence.{Flying, Untouched, SettledBy, FlyingOn}
use Rattle.cf_entry.specs.declared.entry.Entry.{Entry}
use Rattle.cf_entry.specs.declared.entry.Entry.TheVariants as entry
use Rattle.cf_entry.specs.declared.entry.Begun.TheVariants as begin
use Rattle.cf_entry.specs.declared.entry.Reply.TheVariants as reply
use Rattle.cf_entry.specs.declared.status.Status.TheVariants as status
use Rattle.cf_effect.specs.World.{empty_world}
use Rattle.cf_effect.specs.Fold.{fold_of}
use Rattle.cf_plan.specs.Lanes.{Lane}
use Rattle.cf_plan.specs.Life.{Life, Event, CallEnd, Opened, Begin, Grant, Repeat, Settle, Raise, Act, Late, Close, Whole, Answered, IsLife, IsStart}
use Rattle.cf_examples.specs.Given.{file, file_props, file_attrs, schemas, lane_with, lane_pair}
use Rattle.cf_examples.specs.LostCreation.{first, begun, intended, broken_once, broken_twice, broken_thrice, turned, broken_back_once, broken_back_twice, broken_back_thrice, failed, deleting, broken_gone_once, broken_gone_twice, broken_gone_thrice, undeleted, deleting_without, kept, deleted, run}
use Rattle.cf_examples.specs.FirstLife.{files_with}
use Rattle.cf_examples.specs.LateLife.{creation}
use Rattle.cf_examples.specs.ContinuedLife.{broken}
use Rattle.cf_examples.specs.Ends.{IsPromised, call}

-- the second lane
abbrev pub others_with : List Settled → ℕ → Lane
others_with settled fence = lane_with (codes "f2") file settled [] fence

abbrev pub start : Life
start =
    record {
      entries = [];
      lanes = files_with [] [] 0 ∷ others_with [] 0 ∷ [];
      leases = [];
      is_open = false;
      has_granted = false;
      is_stopped = false;
    }

abbrev pub StartIsOne : Type 0
StartIsOne = IsStart schemas start

abbrev pub until_deleted : List Event
until_deleted =
    Opened 1 ((codes "f1", file) ∷ []) Whole ∷ Raise (codes "f1") Raised true 0 0 ∷ Begin begun Whole ∷ Grant intended Whole
    ∷ Act 1 (broken 0 1) FlyingOn ∷ Settle 1 broken_once Whole
    ∷ Repeat 1 ∷ Act 1 (broken 1 2) Untouched ∷ Settle 1 broken_twice Whole
    ∷ Repeat 1 ∷ Act 1 (broken 2 3) Untouched ∷ Settle 1 broken_thrice Whole ∷ Grant turned Whole
    ∷ Repeat 1 ∷ Act 1 (broken 3 4) Untouched ∷ Settle 1 broken_back_once Whole
    ∷ Repeat 1 ∷ Act 1 (broken 4 5) Untouched ∷ Settle 1 broken_back_twice Whole
    ∷ Repeat 1 ∷ Act 1 (broken 5 6) Untouched ∷ Settle 1 broken_back_thrice Whole ∷ Grant failed Whole ∷ Begin deleting Whole
    ∷ Repeat 1 ∷ Act 1 (broken 6 7) Untouched ∷ Settle 1 broken_gone_once Whole
    ∷ Repeat 1 ∷ Act 1 (broken 7 8) Untouched ∷ Settle 1 broken_gone_twice Whole
    ∷ Repeat 1 ∷ Act 1 (broken 8 9) Untouched ∷ Settle 1 broken_gone_thrice Whole ∷ Grant undeleted Whole
    ∷ Begin deleting_without Whole ∷ Grant kept Whole ∷ Grant deleted Whole ∷ Close ∷ []

-- the creation may still act, and its stack is gone
abbrev pub flying : Flying
flying = record { epoch = 1; token = 1; request = creation.request }

abbrev pub gone : Life
gone =
    record {
      entries = run;
      lanes = files_with [] (flying ∷ []) 1 ∷ others_with [] 0 ∷ [];
      leases = [];
      is_open = false;
      has_granted = true;
      is_stopped = false;
    }

abbrev pub Deletes : Type 0
Deletes = IsLife schemas start until_deleted gone

abbrev pub ClearsAsPromised : Type 0
ClearsAsPromised = IsPromised (codes "s") (fold_of empty_world gone.entries) gone.lanes

-- the next opening, and the stack made anew
abbrev pub opened_again : Entry
opened_again = entry.Opened 2 (lane_pair (codes "f2") file ∷ [])

abbrev pub begun_again : Entry
begun_again = entry.Begin 4 (codes "s") (begin.Create first)

abbrev pub intended_again : Entry
intended_again = entry.Intent 4 2 (codes "f2") (codes "A") (request.Create file (file_props (codes "a") (codes "x")))

abbrev pub made_again : Entry
made_again = entry.Outcome 4 2 (reply.Success (codes "f2:2") (file_attrs (codes "f2:2") 1 (codes "a") (codes "x"))) 2 2

abbrev pub created_again : Entry
created_again = entry.Done 4 status.CreateComplete []

abbrev pub creation_again : Settled
creation_again =
    call 2 (request.Create file (file_props (codes "a") (codes "x")))
    (settlement.Success (codes "f2:2") (file_attrs (codes "f2:2") 1 (codes "a") (codes "x")))

abbrev pub answer_again : CallEnd
answer_again = Answered (answer.Success (codes "f2:2") (file_attrs (codes "f2:2") 1 (codes "a") (codes "x"))) 2 2

-- The fence of the second lane is raised in three tries: two break off, of which the second one has raised it.
abbrev pub from_then_on : List Event
from_then_on =
    Opened 2 ((codes "f2", file) ∷ []) Whole ∷ Raise (codes "f2") Fault false 0 1 ∷ Raise (codes "f2") Fault true 1 2
    ∷ Raise (codes "f2") (Ahead 2) false 2 2 ∷ Begin begun_again Whole ∷ Grant intended_again Whole
    ∷ Late (codes "f1") 0 creation.settlement
    ∷ Act 2 answer_again (SettledBy creation_again.settlement)
    ∷ Settle 2 made_again Whole ∷ Grant created_again Whole ∷ Close ∷ []

-- each lane has a file, and the one of the first lane is no stack's: it is that of the creation which was given up with its stack
abbrev pub end : Life
end =
    record {
      entries = run ++ opened_again ∷ begun_again ∷ intended_again ∷ made_again ∷ created_again ∷ [];
      lanes = files_with (creation ∷ []) [] 1 ∷ others_with (creation_again ∷ []) 2 ∷ [];
      leases = [];
      is_open = false;
      has_granted = true;
      is_stopped = false;
    }

abbrev pub GoesOn : Type 0
GoesOn = IsLife schemas gone from_then_on end

abbrev pub EndsAsPromised : Type 0
EndsAsPromised = IsPromised (codes "s") (fold_of empty_world end.entries) end.lanes
