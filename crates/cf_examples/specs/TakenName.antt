-- A file is moved onto the name of another one: the handler refuses, and the update is taken back (this project's own).
use Rattle.std.specs.Prelude.{◌≡◌, List, [], ◌∷◌, codes, Some, None, false, ◌++◌}
use Rattle.cf_tree.specs.declared.code.Code.TheVariants as code
use Rattle.cf_tree.specs.declared.request.Request.TheVariants as request
use Rattle.cf_tree.specs.declared.source.Source.{Source}
use Rattle.cf_entry.specs.declared.entry.Entry.{Entry}
use Rattle.cf_entry.specs.declared.entry.Entry.TheVariants as entry
use Rattle.cf_entry.specs.declared.entry.Begun.TheVariants as begin
use Rattle.cf_entry.specs.declared.entry.Reply.TheVariants as reply
use Rattle.cf_entry.specs.declared.status.Status.TheVariants as status
use Rattle.cf_entry.specs.declared.turn.Cause.TheVariants as cause
use Rattle.cf_entry.specs.declared.turn.Phase.TheVariants as phase
use Rattle.cf_entry.specs.declared.turn.Reason.TheVariants as reason
use Rattle.cf_effect.specs.declared.held.HeldStatus.TheVariants as held
use Rattle.cf_effect.specs.World.{empty_world}
use Rattle.cf_effect.specs.Fold.{fold_of}
use Rattle.cf_plan.specs.Follow.{IsLegal}
use Rattle.cf_examples.specs.Given.{file, file_props, file_attrs, schemas, source_of, lane_pair, report_of, bare, IsRefusedAfter}

abbrev pub first : Source
first =
    source_of (codes "two") (codes "one")
    (codes "{\"Resources\":{\"A\":{\"Type\":\"Local::Files::File\",\"Properties\":{\"Path\":\"a\",\"Content\":\"x\"}},"
    ++ codes "\"B\":{\"Type\":\"Local::Files::File\",\"Properties\":{\"Path\":\"b\",\"Content\":\"y\"}}}}")

abbrev pub second : Source
second =
    source_of (codes "two") (codes "two")
    (codes "{\"Resources\":{\"A\":{\"Type\":\"Local::Files::File\",\"Properties\":{\"Path\":\"b\",\"Content\":\"x\"}},"
    ++ codes "\"B\":{\"Type\":\"Local::Files::File\",\"Properties\":{\"Path\":\"b\",\"Content\":\"y\"}}}}")

abbrev pub opened : Entry
opened = entry.Opened 1 (lane_pair (codes "f1") file ∷ [])

abbrev pub begun : Entry
begun = entry.Begin 1 (codes "two") (begin.Create first)

abbrev pub intended_a : Entry
intended_a = entry.Intent 1 1 (codes "f1") (codes "A") (request.Create file (file_props (codes "a") (codes "x")))

abbrev pub made_a : Entry
made_a = entry.Outcome 1 1 (reply.Success (codes "f1:1") (file_attrs (codes "f1:1") 1 (codes "a") (codes "x"))) 0 0

abbrev pub intended_b : Entry
intended_b = entry.Intent 1 2 (codes "f1") (codes "B") (request.Create file (file_props (codes "b") (codes "y")))

abbrev pub made_b : Entry
made_b = entry.Outcome 1 2 (reply.Success (codes "f1:2") (file_attrs (codes "f1:2") 1 (codes "b") (codes "y"))) 0 0

abbrev pub created : Entry
created = entry.Done 1 status.CreateComplete []

abbrev pub updating : Entry
updating = entry.Begin 2 (codes "two") (begin.Update second)

abbrev pub intended_move : Entry
intended_move = entry.Intent 2 3 (codes "f1") (codes "A") (request.Create file (file_props (codes "b") (codes "x")))

abbrev pub refused : Entry
refused = entry.Outcome 2 3 (reply.Failed code.AlreadyExists) 0 1

abbrev pub turned : Entry
turned = entry.Phase 2 phase.Back (Some (cause.Handler (codes "A") (reason.Code code.AlreadyExists)))

abbrev pub cleaning : Entry
cleaning = entry.Phase 2 phase.BackClean None

abbrev pub rolled_back : Entry
rolled_back = entry.Done 2 status.UpdateRollbackComplete []

abbrev pub run : List Entry
run = opened ∷ begun ∷ intended_a ∷ made_a ∷ intended_b ∷ made_b ∷ created ∷ updating ∷ intended_move ∷ refused ∷ turned ∷ cleaning
    ∷ rolled_back ∷ []

-- each entry may follow where it stands
abbrev pub Legal : Type 0
Legal = IsLegal schemas empty_world run

-- what the report shows in the end
abbrev pub Shows : Type 0
Shows =
    report_of (codes "two") (fold_of empty_world run)
    ≡ record (bare status.UpdateRollbackComplete 1) {
      resources = record {
        path = (codes "A");
        kind = file;
        physical = (codes "f1:1");
        status = held.CreateComplete;
        unsure = false;
        props = (file_props (codes "a") (codes "x"));
      }
          ∷ record {
            path = (codes "B");
            kind = file;
            physical = (codes "f1:2");
            status = held.CreateComplete;
            unsure = false;
            props = (file_props (codes "b") (codes "y"));
          } ∷ [];
    }

-- A rollback does not make an earlier resource anew under another id.
abbrev pub MadeAnew : Type 0
MadeAnew =
    IsRefusedAfter (opened ∷ begun ∷ intended_a ∷ made_a ∷ intended_b ∷ made_b ∷ created ∷ updating ∷ intended_move ∷ refused ∷ turned ∷ [])
    (entry.Intent 2 4 (codes "f1") (codes "A") (request.Create file (file_props (codes "a") (codes "x"))))
