-- A life of a journal that was put back from an earlier copy, while its lane has heard of three openings since. Its next opening
-- finds the lane ahead, and the call that it makes is stale; the one after that has caught up, and the call answers (this project's own).
use Rattle.std.specs.Prelude.{ℕ, List, [], ◌∷◌, codes, true, false}
use Rattle.cf_handler.specs.declared.fence.FenceAnswer.TheVariants.{Ahead}
use Rattle.cf_handler.specs.Fence.{Left, Untouched}
use Rattle.cf_entry.specs.declared.entry.Entry.{Entry}
use Rattle.cf_entry.specs.declared.entry.Entry.TheVariants as entry
use Rattle.cf_tree.specs.declared.request.Answer.TheVariants as answer
use Rattle.cf_plan.specs.Life.{Life, Event, Opened, Grant, Repeat, Settle, Park, Raise, Act, Close, Whole, Answered, IsLife, Happens, world_of}
use Rattle.cf_agree.specs.Ties.{AreTied}
use Rattle.cf_core.specs.AccountOf.{account_of, lanes_of}
use Rattle.cf_schema.specs.declared.described.Schema.{Schema}
use Rattle.cf_examples.specs.Given.{file, file_attrs, schemas, lane_pair}
use Rattle.cf_examples.specs.FirstResource.{opened, begun, intended, answered, done}
use Rattle.cf_examples.specs.FirstLife.{made, files_with}
use Rattle.cf_examples.specs.CrashedLife.{opened_again}

-- the call is settled on its lane, of which the journal has no outcome yet
abbrev pub put_back : Life
put_back =
    record {
      entries = opened ∷ begun ∷ intended ∷ [];
      lanes = files_with (made ∷ []) [] 3 ∷ [];
      leases = [];
      is_open = false;
      has_granted = false;
      is_stopped = false;
    }

abbrev pub opened_once_more : Entry
opened_once_more = entry.Opened 3 (lane_pair (codes "f1") file ∷ [])

abbrev pub events : List Event
events =
    Opened 2 ((codes "f1", file) ∷ []) Whole ∷ Raise (codes "f1") (Ahead 3) false 0 0 ∷ Repeat 1
    ∷ Act 1 (Answered (answer.Stale 3) 0 0) Untouched ∷ Park 1 ∷ Close
    ∷ Opened 3 ((codes "f1", file) ∷ []) Whole ∷ Raise (codes "f1") (Ahead 3) false 0 0 ∷ Repeat 1
    ∷ Act 1 (Answered (answer.Success (codes "f1:1") (file_attrs (codes "f1:1") 5 (codes "web.txt") (codes "hello"))) 0 0) Untouched
    ∷ Settle 1 answered Whole ∷ Grant done Whole ∷ Close ∷ []

abbrev pub end : Life
end =
    record {
      entries = opened ∷ begun ∷ intended ∷ opened_again ∷ opened_once_more ∷ answered ∷ done ∷ [];
      lanes = files_with (made ∷ []) [] 3 ∷ [];
      leases = [];
      is_open = false;
      has_granted = true;
      is_stopped = false;
    }

abbrev pub CatchesUp : Type 0
CatchesUp = IsLife schemas put_back events end

-- Where journal and lanes agree, no call is stale: no fence is past the last opening.
abbrev pub NeverStale : Type 0
NeverStale =
    (given : List Schema) (life : Life) (token fence before after : ℕ) (left : Left)
    → AreTied (account_of life.entries (world_of life)) (lanes_of life.lanes)
    → Happens given life (Act token (Answered (answer.Stale fence) before after) left) → ⊥
