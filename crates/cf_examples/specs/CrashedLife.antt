-- A life with a crash: the first call breaks off and may act later, and the engine is gone before that is written down.
-- It is opened again, the fence is raised past the call that may act, and the token is called again and answers (this project's own).
use Rattle.std.specs.Prelude.{List, [], ◌∷◌, codes, true, false}
use Rattle.cf_tree.specs.declared.request.Answer.TheVariants as answer
use Rattle.cf_tree.specs.declared.request.Request.TheVariants as request
use Rattle.cf_handler.specs.declared.fence.FenceAnswer.TheVariants.{Raised}
use Rattle.cf_handler.specs.Fence.{Flying, SettledBy, FlyingOn}
use Rattle.cf_entry.specs.declared.entry.Entry.{Entry}
use Rattle.cf_entry.specs.declared.entry.Entry.TheVariants as entry
use Rattle.cf_entry.specs.declared.entry.Reply.TheVariants as reply
use Rattle.cf_plan.specs.Life.{Life, Event, Opened, Begin, Grant, Repeat, Settle, Raise, Act, Close, Crash, Whole, Answered, IsLife}
use Rattle.cf_examples.specs.Given.{file, file_props, file_attrs, schemas}
use Rattle.cf_examples.specs.FirstResource.{opened, begun, intended, done}
use Rattle.cf_examples.specs.FirstLife.{start, made, files_with}

-- the call that may act later
abbrev pub late : Flying
late = record { epoch = 1; token = 1; request = request.Create file (file_props (codes "web.txt") (codes "hello")) }

abbrev pub opened_again : Entry
opened_again = entry.Opened 2 ((codes "f1", file) ∷ [])

abbrev pub answered_later : Entry
answered_later = entry.Outcome 1 1 (reply.Success (codes "f1:1") (file_attrs (codes "f1:1") 5 (codes "web.txt") (codes "hello"))) 1 1

abbrev pub until_the_crash : List Event
until_the_crash =
    Opened 1 ((codes "f1", file) ∷ []) Whole ∷ Raise (codes "f1") Raised true 0 0 ∷ Begin begun Whole ∷ Grant intended Whole
    ∷ Act 1 (Answered answer.Fault 0 1) FlyingOn ∷ Crash ∷ []

abbrev pub after_the_crash : List Event
after_the_crash =
    Opened 2 ((codes "f1", file) ∷ []) Whole ∷ Raise (codes "f1") Raised true 0 0 ∷ Repeat 1
    ∷ Act 1 (Answered (answer.Success (codes "f1:1") (file_attrs (codes "f1:1") 5 (codes "web.txt") (codes "hello"))) 1 1)
    (SettledBy made.settlement) ∷ Settle 1 answered_later Whole ∷ Grant done Whole ∷ Close ∷ []

-- behind the crash the call still flies
abbrev pub crashed : Life
crashed =
    record {
      entries = opened ∷ begun ∷ intended ∷ [];
      lanes = files_with [] (late ∷ []) 1 ∷ [];
      leases = [];
      is_open = false;
      has_granted = false;
      is_stopped = false;
    }

abbrev pub end : Life
end =
    record {
      entries = opened ∷ begun ∷ intended ∷ opened_again ∷ answered_later ∷ done ∷ [];
      lanes = files_with (made ∷ []) (late ∷ []) 2
          ∷ [];
      leases = [];
      is_open = false;
      has_granted = true;
      is_stopped = false;
    }

abbrev pub Crashes : Type 0
Crashes = IsLife schemas start until_the_crash crashed

abbrev pub GoesOn : Type 0
GoesOn = IsLife schemas crashed after_the_crash end
