-- A file is replaced: the record that refers to it is updated to the new id, and the old file is deleted in the cleanup (worked in the
-- order of the calls). This project's own.
use Rattle.std.specs.Prelude.{◌≡◌, ℕ, List, [], ◌∷◌, ◌++◌, codes, None, false}
use Rattle.cf_tree.specs.declared.request.Request.TheVariants as request
use Rattle.cf_tree.specs.declared.source.Source.{Source}
use Rattle.cf_entry.specs.declared.entry.Entry.{Entry}
use Rattle.cf_entry.specs.declared.entry.Entry.TheVariants as entry
use Rattle.cf_entry.specs.declared.entry.Begun.TheVariants as begin
use Rattle.cf_entry.specs.declared.entry.Reply.TheVariants as reply
use Rattle.cf_entry.specs.declared.status.Status.TheVariants as status
use Rattle.cf_entry.specs.declared.turn.Phase.TheVariants as phase
use Rattle.cf_effect.specs.declared.held.HeldStatus.TheVariants as held
use Rattle.cf_effect.specs.World.{empty_world}
use Rattle.cf_effect.specs.Fold.{fold_of}
use Rattle.cf_plan.specs.Follow.{IsLegal}
use Rattle.cf_examples.specs.Given.{file, note, file_props, file_attrs, note_props, note_attrs, schemas, source_of, lane_pair, report_of, bare, IsRefusedAfter}

abbrev pub first : Source
first =
    source_of (codes "app") (codes "one")
    (codes "{\"Resources\":{\"Web\":{\"Type\":\"Local::Files::File\",\"Properties\":{\"Path\":\"web.txt\",\"Content\":\"x\"}},"
    ++ codes "\"Ptr\":{\"Type\":\"Local::Records::Record\",\"Properties\":{\"Key\":\"p\",\"Value\":{\"Ref\":\"Web\"}}}}}")

abbrev pub second : Source
second =
    source_of (codes "app") (codes "two")
    (codes "{\"Resources\":{\"Web\":{\"Type\":\"Local::Files::File\",\"Properties\":{\"Path\":\"new.txt\",\"Content\":\"x\"}},"
    ++ codes "\"Ptr\":{\"Type\":\"Local::Records::Record\",\"Properties\":{\"Key\":\"p\",\"Value\":{\"Ref\":\"Web\"}}}}}")

abbrev pub opened : Entry
opened = entry.Opened 1 (lane_pair (codes "f1") file ∷ lane_pair (codes "r1") note ∷ [])

abbrev pub begun : Entry
begun = entry.Begin 1 (codes "app") (begin.Create first)

abbrev pub intended_web : Entry
intended_web = entry.Intent 1 1 (codes "f1") (codes "Web") (request.Create file (file_props (codes "web.txt") (codes "x")))

abbrev pub made_web : Entry
made_web = entry.Outcome 1 1 (reply.Success (codes "f1:1") (file_attrs (codes "f1:1") 1 (codes "web.txt") (codes "x"))) 0 0

abbrev pub intended_ptr : Entry
intended_ptr = entry.Intent 1 2 (codes "r1") (codes "Ptr") (request.Create note (note_props (codes "p") (codes "f1:1")))

abbrev pub made_ptr : Entry
made_ptr = entry.Outcome 1 2 (reply.Success (codes "r1:2") (note_attrs (codes "r1:2") 4 (codes "p") (codes "f1:1"))) 0 0

abbrev pub created : Entry
created = entry.Done 1 status.CreateComplete []

abbrev pub updating : Entry
updating = entry.Begin 2 (codes "app") (begin.Update second)

abbrev pub intended_new : Entry
intended_new = entry.Intent 2 3 (codes "f1") (codes "Web") (request.Create file (file_props (codes "new.txt") (codes "x")))

abbrev pub made_new : Entry
made_new = entry.Outcome 2 3 (reply.Success (codes "f1:3") (file_attrs (codes "f1:3") 1 (codes "new.txt") (codes "x"))) 0 0

abbrev pub intended_change : Entry
intended_change = entry.Intent 2 4 (codes "r1") (codes "Ptr") (request.Update (codes "r1:2") (note_props (codes "p") (codes "f1:3")))

abbrev pub changed_ptr : Entry
changed_ptr = entry.Outcome 2 4 (reply.Success (codes "r1:2") (note_attrs (codes "r1:2") 4 (codes "p") (codes "f1:3"))) 0 0

abbrev pub cleaning : Entry
cleaning = entry.Phase 2 phase.Clean None

abbrev pub intended_deletion : Entry
intended_deletion = entry.Intent 2 5 (codes "f1") (codes "Web") (request.Delete (codes "f1:1"))

abbrev pub deleted : Entry
deleted = entry.Outcome 2 5 (reply.Success (codes "f1:1") []) 0 0

abbrev pub updated : Entry
updated = entry.Done 2 status.UpdateComplete []

abbrev pub run : List Entry
run =
    opened ∷ begun ∷ intended_web ∷ made_web ∷ intended_ptr ∷ made_ptr ∷ created ∷ updating ∷ intended_new ∷ made_new ∷ intended_change
    ∷ changed_ptr ∷ cleaning ∷ intended_deletion ∷ deleted ∷ updated ∷ []

-- each entry may follow where it stands
abbrev pub Legal : Type 0
Legal = IsLegal schemas empty_world run

-- what the report shows in the end
abbrev pub Shows : Type 0
Shows =
    report_of (codes "app") (fold_of empty_world run)
    ≡ record (bare status.UpdateComplete 1) {
      resources = record {
        path = (codes "Ptr");
        kind = note;
        physical = (codes "r1:2");
        status = held.UpdateComplete;
        unsure = false;
        props = (note_props (codes "p") (codes "f1:3"));
      }
          ∷ record {
            path = (codes "Web");
            kind = file;
            physical = (codes "f1:3");
            status = held.UpdateComplete;
            unsure = false;
            props = (file_props (codes "new.txt") (codes "x"));
          } ∷ [];
    }

-- The cleanup may not begin after the new file alone was sent.
abbrev pub CleanedTooEarly : Type 0
CleanedTooEarly =
    IsRefusedAfter (opened ∷ begun ∷ intended_web ∷ made_web ∷ intended_ptr ∷ made_ptr ∷ created ∷ updating ∷ intended_new ∷ made_new ∷ [])
    (entry.Phase 2 phase.Clean None)

-- The old file may not be deleted before the cleanup.
abbrev pub DeletedBeforeCleanup : Type 0
DeletedBeforeCleanup =
    IsRefusedAfter (opened ∷ begun ∷ intended_web ∷ made_web ∷ intended_ptr ∷ made_ptr ∷ created ∷ updating ∷ intended_new ∷ made_new ∷ [])
    (entry.Intent 2 4 (codes "f1") (codes "Web") (request.Delete (codes "f1:1")))

-- Where the record changes otherwise too, it gets the new id, and may not get the id of the file that is replaced.
abbrev pub third : Source
third =
    source_of (codes "app") (codes "three")
    (codes "{\"Resources\":{\"Web\":{\"Type\":\"Local::Files::File\",\"Properties\":{\"Path\":\"new.txt\",\"Content\":\"x\"}},"
    ++ codes "\"Ptr\":{\"Type\":\"Local::Records::Record\",\"Properties\":{\"Key\":\"p\",\"Value\":{\"Fn::Sub\":\"at ${"
    ++ codes "Web}\"}}}}}")

abbrev pub updating_both : Entry
updating_both = entry.Begin 2 (codes "app") (begin.Update third)

abbrev pub until_replaced : List Entry
until_replaced = opened ∷ begun ∷ intended_web ∷ made_web ∷ intended_ptr ∷ made_ptr ∷ created ∷ updating_both ∷ intended_new ∷ made_new ∷ []

abbrev pub gets : List ℕ → Entry
gets id = entry.Intent 2 4 (codes "r1") (codes "Ptr") (request.Update (codes "r1:2") (note_props (codes "p") (codes "at " ++ id)))

abbrev pub NewIdIsLegal : Type 0
NewIdIsLegal = IsLegal schemas empty_world (until_replaced ++ gets (codes "f1:3") ∷ [])

abbrev pub OldIdEvaluated : Type 0
OldIdEvaluated = IsRefusedAfter until_replaced (gets (codes "f1:1"))

-- The end of an operation may not carry the number of another one, which has ended.
abbrev pub EndedUnderAnotherNumber : Type 0
EndedUnderAnotherNumber =
    IsRefusedAfter (opened ∷ begun ∷ intended_web ∷ made_web ∷ intended_ptr ∷ made_ptr ∷ created ∷ updating ∷ intended_new ∷ made_new
    ∷ intended_change ∷ changed_ptr ∷ cleaning ∷ intended_deletion ∷ deleted ∷ []) (entry.Done 1 status.UpdateComplete [])

-- An answer may not carry the number of an ended operation.
abbrev pub AnsweredUnderAnotherNumber : Type 0
AnsweredUnderAnotherNumber =
    IsRefusedAfter (opened ∷ begun ∷ intended_web ∷ made_web ∷ intended_ptr ∷ made_ptr ∷ created ∷ updating ∷ intended_new ∷ made_new
    ∷ intended_change ∷ [])
    (entry.Outcome 1 4 (reply.Success (codes "r1:2") (note_attrs (codes "r1:2") 4 (codes "p") (codes "f1:3"))) 0 0)
