-- A life of two stacks: a change set is kept while the engine is closed and carried out by a creation, while the other stack
-- rests; then the other one is updated meanwhile, each has a call of its own lane out, and they answer in the other order (this project's
-- own).
use Rattle.std.specs.Prelude.{List, [], ◌∷◌, ◌++◌, codes, true, false, None}
use Rattle.cf_tree.specs.declared.request.Answer.TheVariants as answer
use Rattle.cf_tree.specs.declared.request.Request.{Request}
use Rattle.cf_tree.specs.declared.request.Request.TheVariants as request
use Rattle.cf_tree.specs.declared.source.Source.{Source}
use Rattle.cf_tree.specs.declared.row.Row.{Row}
use Rattle.cf_tree.specs.declared.row.Action.TheVariants as action
use Rattle.cf_handler.specs.declared.settled.Settled.{Settled}
use Rattle.cf_handler.specs.declared.settled.Settlement.TheVariants as settlement
use Rattle.cf_handler.specs.declared.fence.FenceAnswer.TheVariants.{Raised}
use Rattle.cf_handler.specs.Fence.{SettledBy}
use Rattle.cf_entry.specs.declared.entry.Entry.{Entry}
use Rattle.cf_entry.specs.declared.entry.Entry.TheVariants as entry
use Rattle.cf_entry.specs.declared.entry.Begun.TheVariants as begin
use Rattle.cf_entry.specs.declared.entry.Reply.TheVariants as reply
use Rattle.cf_entry.specs.declared.status.Status.TheVariants as status
use Rattle.cf_entry.specs.declared.turn.Phase.TheVariants as phase
use Rattle.cf_effect.specs.World.{empty_world}
use Rattle.cf_effect.specs.Fold.{fold_of}
use Rattle.cf_plan.specs.Life.{Life, Event, CallEnd, Opened, ChangeSet, Begin, Grant, Settle, Raise, Act, Close, Whole, BrokenWithout, Answered, IsLife}
use Rattle.cf_examples.specs.Given.{file, note, file_props, file_attrs, note_attrs, schemas, source_of, lane_pair}
use Rattle.cf_examples.specs.LateEffect.{second, opened, begun, intended, made, created}
use Rattle.cf_examples.specs.FirstLife.{files_with}
use Rattle.cf_examples.specs.LateLife.{creation, made_x}
use Rattle.cf_examples.specs.StoppedLife.{start, notes_with, create_b, settled_b, answer_b}
use Rattle.cf_examples.specs.Ends.{IsPromised, call}

-- the other stack, of one record, and what its change set shows
abbrev pub other : Source
other =
    source_of (codes "t") (codes "one")
    (codes "{\"Resources\":{\"B\":{\"Type\":\"Local::Records::Record\",\"Properties\":{\"Key\":\"b\",\"Value\":\"u\"}}}}")

abbrev pub rows : List Row
rows = record { action = action.Add; path = codes "B"; kind = note; replacement = None; unsure = false; details = [] } ∷ []

abbrev pub reviewed : Entry
reviewed = entry.ChangeSet 1 (codes "t") other rows false

abbrev pub opened_again : Entry
opened_again = entry.Opened 2 (lane_pair (codes "f1") file ∷ lane_pair (codes "r1") note ∷ [])

abbrev pub creating : Entry
creating = entry.Begin 2 (codes "t") (begin.Create other)

abbrev pub intended_b : Entry
intended_b = entry.Intent 2 2 (codes "r1") (codes "B") create_b

abbrev pub updating : Entry
updating = entry.Begin 3 (codes "s") (begin.Update second)

abbrev pub update_a : Request
update_a = request.Update (codes "f1:1") (file_props (codes "a") (codes "y"))

abbrev pub intended_a : Entry
intended_a = entry.Intent 3 3 (codes "f1") (codes "A") update_a

abbrev pub changed_a : Entry
changed_a = entry.Outcome 3 3 (reply.Success (codes "f1:1") (file_attrs (codes "f1:1") 1 (codes "a") (codes "y"))) 0 0

abbrev pub cleaning : Entry
cleaning = entry.Phase 3 phase.Clean None

abbrev pub made_b : Entry
made_b = entry.Outcome 2 2 (reply.Success (codes "r1:2") (note_attrs (codes "r1:2") 1 (codes "b") (codes "u"))) 0 0

abbrev pub updated : Entry
updated = entry.Done 3 status.UpdateComplete []

abbrev pub created_other : Entry
created_other = entry.Done 2 status.CreateComplete []

-- the update, as it is settled, and as it answers
abbrev pub settled_a : Settled
settled_a = call 3 update_a (settlement.Success (codes "f1:1") (file_attrs (codes "f1:1") 1 (codes "a") (codes "y")))

abbrev pub answer_a : CallEnd
answer_a = Answered (answer.Success (codes "f1:1") (file_attrs (codes "f1:1") 1 (codes "a") (codes "y"))) 0 0

-- The lane of records is left out of the first opening. Of the change set, the first try to write it down breaks.
abbrev pub until_reviewed : List Event
until_reviewed =
    Opened 1 ((codes "f1", file) ∷ []) Whole ∷ Raise (codes "f1") Raised true 0 0 ∷ Begin begun Whole ∷ Grant intended Whole
    ∷ Act 1 made_x (SettledBy creation.settlement) ∷ Settle 1 made Whole ∷ Grant created Whole ∷ Close
    ∷ ChangeSet reviewed BrokenWithout ∷ ChangeSet reviewed Whole ∷ []

abbrev pub kept : Life
kept =
    record {
      entries = opened ∷ begun ∷ intended ∷ made ∷ created ∷ reviewed ∷ [];
      lanes = files_with (creation ∷ []) [] 1 ∷ notes_with [] 0 ∷ [];
      leases = [];
      is_open = false;
      has_granted = true;
      is_stopped = false;
    }

abbrev pub Reviews : Type 0
Reviews = IsLife schemas start until_reviewed kept

-- the reviewed stack is none yet, and holds nothing
abbrev pub ReviewsAsPromised : Type 0
ReviewsAsPromised = IsPromised (codes "t") (fold_of empty_world kept.entries) kept.lanes

abbrev pub from_then_on : List Event
from_then_on =
    Opened 2 ((codes "f1", file) ∷ (codes "r1", note) ∷ []) Whole ∷ Raise (codes "r1") Raised true 0 0 ∷ Raise (codes "f1") Raised true 0 0
    ∷ Begin creating Whole ∷ Grant intended_b Whole ∷ Begin updating Whole ∷ Grant intended_a Whole
    ∷ Act 3 answer_a (SettledBy settled_a.settlement) ∷ Settle 3 changed_a Whole ∷ Grant cleaning Whole
    ∷ Act 2 answer_b (SettledBy settled_b.settlement) ∷ Settle 2 made_b Whole ∷ Grant updated Whole ∷ Grant created_other Whole ∷ Close ∷ []

abbrev pub end : Life
end =
    record {
      entries = kept.entries
          ++ opened_again ∷ creating ∷ intended_b ∷ updating ∷ intended_a ∷ changed_a ∷ cleaning ∷ made_b ∷ updated ∷ created_other ∷ [];
      lanes = files_with (creation ∷ settled_a ∷ []) [] 2 ∷ notes_with (settled_b ∷ []) 2 ∷ [];
      leases = [];
      is_open = false;
      has_granted = true;
      is_stopped = false;
    }

abbrev pub GoesOn : Type 0
GoesOn = IsLife schemas kept from_then_on end

abbrev pub UpdatesAsPromised : Type 0
UpdatesAsPromised = IsPromised (codes "s") (fold_of empty_world end.entries) end.lanes

abbrev pub CreatesAsPromised : Type 0
CreatesAsPromised = IsPromised (codes "t") (fold_of empty_world end.entries) end.lanes
