-- A life with two calls at once, whose book is stopped four times: an outcome and an opening are not written down, an outcome and
-- the end are by appends that break. Calls that are out answer all the same, are parked, and are made again in the next opening (this
-- project's own).
use Rattle.std.specs.Prelude.{ℕ, List, [], ◌∷◌, ◌++◌, codes, true, false}
use Rattle.cf_tree.specs.declared.request.Answer.TheVariants as answer
use Rattle.cf_tree.specs.declared.request.Request.{Request}
use Rattle.cf_tree.specs.declared.request.Request.TheVariants as request
use Rattle.cf_tree.specs.declared.source.Source.{Source}
use Rattle.cf_handler.specs.declared.settled.Settled.{Settled}
use Rattle.cf_handler.specs.declared.settled.Settlement.TheVariants as settlement
use Rattle.cf_handler.specs.declared.fence.FenceAnswer.TheVariants.{Raised}
use Rattle.cf_handler.specs.Fence.{Untouched, SettledBy}
use Rattle.cf_entry.specs.declared.entry.Entry.{Entry}
use Rattle.cf_entry.specs.declared.entry.Entry.TheVariants as entry
use Rattle.cf_entry.specs.declared.entry.Begun.TheVariants as begin
use Rattle.cf_entry.specs.declared.entry.Reply.TheVariants as reply
use Rattle.cf_entry.specs.declared.status.Status.TheVariants as status
use Rattle.cf_effect.specs.World.{empty_world}
use Rattle.cf_effect.specs.Fold.{fold_of}
use Rattle.cf_plan.specs.Lanes.{Lane}
use Rattle.cf_plan.specs.Life.{Life, Event, CallEnd, Opened, Begin, Grant, Repeat, Settle, Park, Raise, Act, Close, Crash, Whole, BrokenWith, BrokenWithout, Answered, IsLife, IsStart}
use Rattle.cf_examples.specs.Given.{file, note, file_props, file_attrs, note_props, note_attrs, schemas, source_of, lane_pair, lane_with}
use Rattle.cf_examples.specs.FirstLife.{files_with}
use Rattle.cf_examples.specs.Ends.{IsPromised, call}

-- a file and a record, of which neither needs the other
abbrev pub source : Source
source =
    source_of (codes "s") (codes "one")
    (codes "{\"Resources\":{\"A\":{\"Type\":\"Local::Files::File\",\"Properties\":{\"Path\":\"a\",\"Content\":\"x\"}},"
    ++ codes "\"B\":{\"Type\":\"Local::Records::Record\",\"Properties\":{\"Key\":\"b\",\"Value\":\"u\"}}}}")

abbrev pub opened : Entry
opened = entry.Opened 1 (lane_pair (codes "f1") file ∷ lane_pair (codes "r1") note ∷ [])

abbrev pub begun : Entry
begun = entry.Begin 1 (codes "s") (begin.Create source)

abbrev pub create_a : Request
create_a = request.Create file (file_props (codes "a") (codes "x"))

abbrev pub create_b : Request
create_b = request.Create note (note_props (codes "b") (codes "u"))

abbrev pub intended_a : Entry
intended_a = entry.Intent 1 1 (codes "f1") (codes "A") create_a

abbrev pub intended_b : Entry
intended_b = entry.Intent 1 2 (codes "r1") (codes "B") create_b

abbrev pub opened_again : Entry
opened_again = entry.Opened 2 (lane_pair (codes "f1") file ∷ lane_pair (codes "r1") note ∷ [])

abbrev pub made_a : Entry
made_a = entry.Outcome 1 1 (reply.Success (codes "f1:1") (file_attrs (codes "f1:1") 1 (codes "a") (codes "x"))) 0 0

abbrev pub opened_once_more : Entry
opened_once_more = entry.Opened 3 (lane_pair (codes "f1") file ∷ lane_pair (codes "r1") note ∷ [])

abbrev pub made_b : Entry
made_b = entry.Outcome 1 2 (reply.Success (codes "r1:2") (note_attrs (codes "r1:2") 1 (codes "b") (codes "u"))) 0 0

abbrev pub created : Entry
created = entry.Done 1 status.CreateComplete []

-- the two calls, as they are settled, and as they answer
abbrev pub settled_a : Settled
settled_a = call 1 create_a (settlement.Success (codes "f1:1") (file_attrs (codes "f1:1") 1 (codes "a") (codes "x")))

abbrev pub settled_b : Settled
settled_b = call 2 create_b (settlement.Success (codes "r1:2") (note_attrs (codes "r1:2") 1 (codes "b") (codes "u")))

abbrev pub answer_a : CallEnd
answer_a = Answered (answer.Success (codes "f1:1") (file_attrs (codes "f1:1") 1 (codes "a") (codes "x"))) 0 0

abbrev pub answer_b : CallEnd
answer_b = Answered (answer.Success (codes "r1:2") (note_attrs (codes "r1:2") 1 (codes "b") (codes "u"))) 0 0

abbrev pub notes_with : List Settled → ℕ → Lane
notes_with settled fence = lane_with (codes "r1") note settled [] fence

abbrev pub start : Life
start =
    record {
      entries = [];
      lanes = files_with [] [] 0 ∷ notes_with [] 0 ∷ [];
      leases = [];
      is_open = false;
      has_granted = false;
      is_stopped = false;
    }

abbrev pub StartIsOne : Type 0
StartIsOne = IsStart schemas start

-- Both calls are out before either answers. The record's answers first, and its outcome is not written down; the file's
-- answers while the book is stopped, and is parked.
abbrev pub until_closed : List Event
until_closed =
    Opened 1 ((codes "f1", file) ∷ (codes "r1", note) ∷ []) Whole ∷ Raise (codes "f1") Raised true 0 0
    ∷ Raise (codes "r1") Raised true 0 0
    ∷ Begin begun Whole ∷ Grant intended_a Whole ∷ Grant intended_b Whole
    ∷ Act 2 answer_b (SettledBy settled_b.settlement) ∷ Settle 2 made_b BrokenWithout
    ∷ Act 1 answer_a (SettledBy settled_a.settlement) ∷ Park 1 ∷ Close ∷ []

abbrev pub closed : Life
closed =
    record {
      entries = opened ∷ begun ∷ intended_a ∷ intended_b ∷ [];
      lanes = files_with (settled_a ∷ []) [] 1 ∷ notes_with (settled_b ∷ []) 1 ∷ [];
      leases = [];
      is_open = false;
      has_granted = true;
      is_stopped = false;
    }

abbrev pub Stops : Type 0
Stops = IsLife schemas start until_closed closed

-- The next opening is not written down. Behind the one after that both calls are made again; the file's outcome is written
-- down by an append that breaks, and the engine is gone while the record's call is out.
abbrev pub until_crashed : List Event
until_crashed =
    Opened 2 ((codes "f1", file) ∷ (codes "r1", note) ∷ []) BrokenWithout ∷ Close
    ∷ Opened 2 ((codes "f1", file) ∷ (codes "r1", note) ∷ []) Whole ∷ Raise (codes "f1") Raised true 0 0
    ∷ Raise (codes "r1") Raised true 0 0
    ∷ Repeat 1 ∷ Repeat 2 ∷ Act 1 answer_a Untouched ∷ Settle 1 made_a BrokenWith ∷ Crash ∷ []

abbrev pub crashed : Life
crashed =
    record {
      entries = opened ∷ begun ∷ intended_a ∷ intended_b ∷ opened_again ∷ made_a ∷ [];
      lanes = files_with (settled_a ∷ []) [] 2 ∷ notes_with (settled_b ∷ []) 2 ∷ [];
      leases = [];
      is_open = false;
      has_granted = false;
      is_stopped = false;
    }

abbrev pub StopsAgain : Type 0
StopsAgain = IsLife schemas closed until_crashed crashed

-- The record's call finds no memory, and is parked; made again it answers as it did at first. The end breaks with its entry.
abbrev pub from_then_on : List Event
from_then_on =
    Opened 3 ((codes "f1", file) ∷ (codes "r1", note) ∷ []) Whole ∷ Raise (codes "f1") Raised true 0 0
    ∷ Raise (codes "r1") Raised true 0 0
    ∷ Repeat 2 ∷ Act 2 (Answered answer.NoMemory 0 0) Untouched ∷ Park 2
    ∷ Repeat 2 ∷ Act 2 answer_b Untouched ∷ Settle 2 made_b Whole ∷ Grant created BrokenWith ∷ Close ∷ []

abbrev pub end : Life
end =
    record {
      entries = opened ∷ begun ∷ intended_a ∷ intended_b ∷ opened_again ∷ made_a ∷ opened_once_more ∷ made_b ∷ created ∷ [];
      lanes = files_with (settled_a ∷ []) [] 3 ∷ notes_with (settled_b ∷ []) 3 ∷ [];
      leases = [];
      is_open = false;
      has_granted = true;
      is_stopped = false;
    }

abbrev pub GoesOn : Type 0
GoesOn = IsLife schemas crashed from_then_on end

abbrev pub EndsAsPromised : Type 0
EndsAsPromised = IsPromised (codes "s") (fold_of empty_world end.entries) end.lanes
