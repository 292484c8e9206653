-- A life with a late effect: an update breaks off and may act later; it is called again in vain until the forward phase has
-- failed, and acts just before the rollback calls it once more. The call then answers, and the earlier content comes back (this project's
-- own).
use Rattle.std.specs.Prelude.{List, [], ◌∷◌, codes, true, false, None}
use Rattle.cf_tree.specs.declared.request.Answer.TheVariants as answer
use Rattle.cf_tree.specs.declared.request.Request.TheVariants as request
use Rattle.cf_handler.specs.declared.settled.Settled.{Settled}
use Rattle.cf_handler.specs.declared.settled.Settlement.TheVariants as settlement
use Rattle.cf_handler.specs.declared.fence.FenceAnswer.TheVariants.{Raised}
use Rattle.cf_handler.specs.Fence.{Flying, Untouched, SettledBy, FlyingOn}
use Rattle.cf_entry.specs.declared.entry.Entry.{Entry}
use Rattle.cf_plan.specs.Life.{Life, Lease, Event, CallEnd, Opened, Begin, Grant, Repeat, Settle, Raise, Act, Late, Close, Whole, Answered, IsLife}
use Rattle.cf_examples.specs.Given.{file, file_props, file_attrs, schemas}
use Rattle.cf_examples.specs.LateEffect.{begun, intended, made, created, updating, intended_change, broken_once, broken_twice, broken_thrice, turned, repeated, intended_restore, restored, cleaning, rolled_back, run, opened}
use Rattle.cf_examples.specs.FirstLife.{start, files_with}

-- the three calls, as they are settled
abbrev pub creation : Settled
creation =
    record {
      token = 1;
      request = request.Create file (file_props (codes "a") (codes "x"));
      settlement = settlement.Success (codes "f1:1") (file_attrs (codes "f1:1") 1 (codes "a") (codes "x"));
    }

abbrev pub change : Settled
change =
    record {
      token = 2;
      request = request.Update (codes "f1:1") (file_props (codes "a") (codes "y"));
      settlement = settlement.Success (codes "f1:1") (file_attrs (codes "f1:1") 1 (codes "a") (codes "y"));
    }

abbrev pub restore : Settled
restore =
    record {
      token = 3;
      request = request.Update (codes "f1:1") (file_props (codes "a") (codes "x"));
      settlement = settlement.Success (codes "f1:1") (file_attrs (codes "f1:1") 1 (codes "a") (codes "x"));
    }

-- the update while it may act later
abbrev pub flying : Flying
flying = record { epoch = 1; token = 2; request = change.request }

abbrev pub made_x : CallEnd
made_x = Answered (answer.Success (codes "f1:1") (file_attrs (codes "f1:1") 1 (codes "a") (codes "x"))) 0 0

abbrev pub made_y : CallEnd
made_y = Answered (answer.Success (codes "f1:1") (file_attrs (codes "f1:1") 1 (codes "a") (codes "y"))) 3 3

abbrev pub made_x_again : CallEnd
made_x_again = Answered (answer.Success (codes "f1:1") (file_attrs (codes "f1:1") 1 (codes "a") (codes "x"))) 3 3

abbrev pub until_it_acts : List Event
until_it_acts =
    Opened 1 ((codes "f1", file) ∷ []) Whole ∷ Raise (codes "f1") Raised true 0 0 ∷ Begin begun Whole ∷ Grant intended Whole
    ∷ Act 1 made_x (SettledBy creation.settlement) ∷ Settle 1 made Whole ∷ Grant created Whole
    ∷ Begin updating Whole ∷ Grant intended_change Whole ∷ Act 2 (Answered answer.Fault 0 1) FlyingOn ∷ Settle 2 broken_once Whole
    ∷ Repeat 2 ∷ Act 2 (Answered answer.Fault 1 2) Untouched ∷ Settle 2 broken_twice Whole
    ∷ Repeat 2 ∷ Act 2 (Answered answer.Fault 2 3) Untouched ∷ Settle 2 broken_thrice Whole
    ∷ Grant turned Whole ∷ Repeat 2 ∷ Late (codes "f1") 0 change.settlement ∷ []

abbrev pub from_then_on : List Event
from_then_on =
    Act 2 made_y Untouched ∷ Settle 2 repeated Whole ∷ Grant intended_restore Whole
    ∷ Act 3 made_x_again (SettledBy restore.settlement) ∷ Settle 3 restored Whole
    ∷ Grant cleaning Whole ∷ Grant rolled_back Whole ∷ Close ∷ []

-- the call that is out as the late effect comes
abbrev pub lease : Lease
lease = record { number = 2; token = 2; lane = codes "f1"; request = change.request; reply = None }

abbrev pub until_turned : List Entry
until_turned =
    opened ∷ begun ∷ intended ∷ made ∷ created ∷ updating ∷ intended_change ∷ broken_once ∷ broken_twice ∷ broken_thrice ∷ turned ∷ []

-- it has acted, and nobody knows yet
abbrev pub acted : Life
acted =
    record {
      entries = until_turned;
      lanes = files_with (creation ∷ change ∷ []) [] 1 ∷ [];
      leases = lease ∷ [];
      is_open = true;
      has_granted = true;
      is_stopped = false;
    }

abbrev pub end : Life
end =
    record {
      entries = run;
      lanes = files_with (creation ∷ change ∷ restore ∷ []) [] 1 ∷ [];
      leases = [];
      is_open = false;
      has_granted = true;
      is_stopped = false;
    }

abbrev pub Acts : Type 0
Acts = IsLife schemas start until_it_acts acted

-- what is recorded and what is live differ then, and journal and lanes agree all the same

abbrev pub GoesOn : Type 0
GoesOn = IsLife schemas acted from_then_on end
