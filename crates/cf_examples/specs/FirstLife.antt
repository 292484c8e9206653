-- The first resource as the life of an engine: a new journal is opened over one lane, its fence is raised, a stack is
-- begun, a call is granted, made and written down, and the book is closed (this project's own).
use Rattle.std.specs.Prelude.{ℕ, List, [], ◌∷◌, ◌++◌, codes, true, false, Some}
use Rattle.cf_tree.specs.declared.request.Answer.TheVariants as answer
use Rattle.cf_tree.specs.declared.request.Request.TheVariants as request
use Rattle.cf_handler.specs.declared.settled.Settled.{Settled}
use Rattle.cf_handler.specs.declared.settled.Settlement.TheVariants as settlement
use Rattle.cf_handler.specs.declared.fence.FenceAnswer.TheVariants.{Raised}
use Rattle.cf_handler.specs.Fence.{Flying, SettledBy}
use Rattle.cf_plan.specs.Lanes.{Lane}
use Rattle.cf_plan.specs.Life.{Life, Event, Opened, Begin, Grant, Settle, Raise, Act, Close, Whole, Answered, IsLife, IsStart, Lease}
use Rattle.cf_plan.specs.Promise.{AreKept}
use Rattle.cf_examples.specs.Given.{file, file_props, file_attrs, schemas, lane_with}
use Rattle.cf_examples.specs.FirstResource.{begun, intended, answered, done, run, opened}

-- the one lane
abbrev pub files_with : List Settled → List Flying → ℕ → Lane
files_with = lane_with (codes "f1") file

abbrev pub start : Life
start = record { entries = []; lanes = files_with [] [] 0 ∷ []; leases = []; is_open = false; has_granted = false; is_stopped = false }

-- a new journal, over a lane on which nothing was ever called
abbrev pub StartIsOne : Type 0
StartIsOne = IsStart schemas start

-- what is settled in the end
abbrev pub made : Settled
made =
    record {
      token = 1;
      request = request.Create file (file_props (codes "web.txt") (codes "hello"));
      settlement = settlement.Success (codes "f1:1") (file_attrs (codes "f1:1") 5 (codes "web.txt") (codes "hello"));
    }

abbrev pub until_written : List Event
until_written =
    Opened 1 ((codes "f1", file) ∷ []) Whole ∷ Raise (codes "f1") Raised true 0 0 ∷ Begin begun Whole ∷ Grant intended Whole
    ∷ Act 1 (Answered (answer.Success (codes "f1:1") (file_attrs (codes "f1:1") 5 (codes "web.txt") (codes "hello"))) 0 0)
    (SettledBy made.settlement) ∷ []

abbrev pub events : List Event
events = until_written ++ Settle 1 answered Whole ∷ Grant done Whole ∷ Close ∷ []

abbrev pub end : Life
end = record {
  entries = run;
  lanes = files_with (made ∷ []) [] 1 ∷ [];
  leases = [];
  is_open = false;
  has_granted = true;
  is_stopped = false;
}

abbrev pub Lives : Type 0
Lives = IsLife schemas start events end

abbrev pub KeepsItsPromises : Type 0
KeepsItsPromises = AreKept end

-- the call has acted, and its answer is not yet written down
abbrev pub lease_answered : Lease
lease_answered =
    record {
      number = 1;
      token = 1;
      lane = codes "f1";
      request = made.request;
      reply = Some (Answered (answer.Success (codes "f1:1") (file_attrs (codes "f1:1") 5 (codes "web.txt") (codes "hello"))) 0 0);
    }

abbrev pub unwritten : Life
unwritten =
    record {
      entries = opened ∷ begun ∷ intended ∷ [];
      lanes = files_with (made ∷ []) [] 1 ∷ [];
      leases = lease_answered ∷ [];
      is_open = true;
      has_granted = true;
      is_stopped = false;
    }

abbrev pub Acts : Type 0
Acts = IsLife schemas start until_written unwritten
