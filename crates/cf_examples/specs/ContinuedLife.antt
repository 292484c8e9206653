-- A life with a continued rollback: an update breaks off each time that it is called, so its rollback fails, and while the
-- engine is closed it acts after all. The next opening raises the fence past it, and the rollback is continued without it (this project's
-- own).
use Rattle.std.specs.Prelude.{ℕ, List, [], ◌∷◌, codes, true, false}
use Rattle.cf_tree.specs.declared.request.Answer.TheVariants as answer
use Rattle.cf_handler.specs.declared.fence.FenceAnswer.TheVariants.{Raised}
use Rattle.cf_handler.specs.Fence.{Untouched, SettledBy, FlyingOn}
use Rattle.cf_effect.specs.World.{empty_world}
use Rattle.cf_effect.specs.Fold.{fold_of}
use Rattle.cf_plan.specs.Life.{Life, Event, CallEnd, Opened, Begin, Grant, Repeat, Settle, Raise, Act, Late, Close, Whole, Answered, IsLife}
use Rattle.cf_examples.specs.Given.{file, schemas}
use Rattle.cf_examples.specs.LateEffect.{begun, intended, made, created, updating, intended_change, broken_once, broken_twice, broken_thrice, turned}
use Rattle.cf_examples.specs.Skipped.{broken_back_once, broken_back_twice, broken_back_thrice, failed, continued, cleaning, rolled_back, until_failed, run}
use Rattle.cf_examples.specs.FirstLife.{start, files_with}
use Rattle.cf_examples.specs.LateLife.{creation, change, flying, made_x}
use Rattle.cf_examples.specs.Ends.{IsPromised}

-- a call that breaks off, with the handler's count before and after
abbrev pub broken : ℕ → ℕ → CallEnd
broken before after = Answered answer.Fault before after

abbrev pub until_closed : List Event
until_closed =
    Opened 1 ((codes "f1", file) ∷ []) Whole ∷ Raise (codes "f1") Raised true 0 0 ∷ Begin begun Whole ∷ Grant intended Whole
    ∷ Act 1 made_x (SettledBy creation.settlement) ∷ Settle 1 made Whole ∷ Grant created Whole
    ∷ Begin updating Whole ∷ Grant intended_change Whole ∷ Act 2 (broken 0 1) FlyingOn ∷ Settle 2 broken_once Whole
    ∷ Repeat 2 ∷ Act 2 (broken 1 2) Untouched ∷ Settle 2 broken_twice Whole
    ∷ Repeat 2 ∷ Act 2 (broken 2 3) Untouched ∷ Settle 2 broken_thrice Whole ∷ Grant turned Whole
    ∷ Repeat 2 ∷ Act 2 (broken 3 4) Untouched ∷ Settle 2 broken_back_once Whole
    ∷ Repeat 2 ∷ Act 2 (broken 4 5) Untouched ∷ Settle 2 broken_back_twice Whole
    ∷ Repeat 2 ∷ Act 2 (broken 5 6) Untouched ∷ Settle 2 broken_back_thrice Whole ∷ Grant failed Whole ∷ Close ∷ []

-- the rollback has failed, and the update may still act
abbrev pub unrolled : Life
unrolled =
    record {
      entries = until_failed;
      lanes = files_with (creation ∷ []) (flying ∷ []) 1 ∷ [];
      leases = [];
      is_open = false;
      has_granted = true;
      is_stopped = false;
    }

abbrev pub Fails : Type 0
Fails = IsLife schemas start until_closed unrolled

abbrev pub FailsAsPromised : Type 0
FailsAsPromised = IsPromised (codes "s") (fold_of empty_world unrolled.entries) unrolled.lanes

abbrev pub from_then_on : List Event
from_then_on =
    Late (codes "f1") 0 change.settlement ∷ Opened 2 ((codes "f1", file) ∷ []) Whole ∷ Raise (codes "f1") Raised true 0 0
    ∷ Begin continued Whole ∷ Grant cleaning Whole ∷ Grant rolled_back Whole ∷ Close ∷ []

-- the file has the new content; what is recorded of it, which is unsure, is the earlier one
abbrev pub end : Life
end =
    record {
      entries = run;
      lanes = files_with (creation ∷ change ∷ []) [] 2 ∷ [];
      leases = [];
      is_open = false;
      has_granted = false;
      is_stopped = false;
    }

abbrev pub GoesOn : Type 0
GoesOn = IsLife schemas unrolled from_then_on end

abbrev pub EndsAsPromised : Type 0
EndsAsPromised = IsPromised (codes "s") (fold_of empty_world end.entries) end.lanes
