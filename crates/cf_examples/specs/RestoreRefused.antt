-- An update is refused at its second resource, and so is the restore of the first: a continued rollback skips it (this project's own).
use Rattle.std.specs.Prelude.{◌≡◌, List, [], ◌∷◌, codes, Some, None, true, false, ◌++◌}
use Rattle.cf_tree.specs.declared.code.Code.TheVariants as code
use Rattle.cf_tree.specs.declared.request.Request.TheVariants as request
use Rattle.cf_tree.specs.declared.source.Source.{Source}
use Rattle.cf_entry.specs.declared.entry.Entry.{Entry}
use Rattle.cf_entry.specs.declared.entry.Entry.TheVariants as entry
use Rattle.cf_entry.specs.declared.entry.Begun.TheVariants as begin
use Rattle.cf_entry.specs.declared.entry.Reply.TheVariants as reply
use Rattle.cf_entry.specs.declared.status.Status.TheVariants as status
use Rattle.cf_entry.specs.declared.turn.Cause.TheVariants as cause
use Rattle.cf_entry.specs.declared.turn.Phase.TheVariants as phase
use Rattle.cf_entry.specs.declared.turn.Reason.TheVariants as reason
use Rattle.cf_effect.specs.declared.held.HeldStatus.TheVariants as held
use Rattle.cf_effect.specs.World.{empty_world}
use Rattle.cf_effect.specs.Fold.{fold_of}
use Rattle.cf_plan.specs.Follow.{IsLegal}
use Rattle.cf_examples.specs.Given.{file, note, file_props, file_attrs, note_props, note_attrs, schemas, source_of, lane_pair, report_of, bare}

abbrev pub first : Source
first =
    source_of (codes "s") (codes "one")
    (codes "{\"Resources\":{\"A\":{\"Type\":\"Local::Files::File\",\"Properties\":{\"Path\":\"a\",\"Content\":\"x\"}},"
    ++ codes "\"B\":{\"Type\":\"Local::Records::Record\",\"DependsOn\":\"A\",\"Properties\":{\"Key\":\"b\",\"Value\":\"u\"}}}}")

abbrev pub second : Source
second =
    source_of (codes "s") (codes "two")
    (codes "{\"Resources\":{\"A\":{\"Type\":\"Local::Files::File\",\"Properties\":{\"Path\":\"a\",\"Content\":\"y\"}},"
    ++ codes "\"B\":{\"Type\":\"Local::Records::Record\",\"DependsOn\":\"A\",\"Properties\":{\"Key\":\"b\",\"Value\":\"w\"}}}}")

abbrev pub opened : Entry
opened = entry.Opened 1 (lane_pair (codes "f1") file ∷ lane_pair (codes "r1") note ∷ [])

abbrev pub begun : Entry
begun = entry.Begin 1 (codes "s") (begin.Create first)

abbrev pub intended_a : Entry
intended_a = entry.Intent 1 1 (codes "f1") (codes "A") (request.Create file (file_props (codes "a") (codes "x")))

abbrev pub made_a : Entry
made_a = entry.Outcome 1 1 (reply.Success (codes "f1:1") (file_attrs (codes "f1:1") 1 (codes "a") (codes "x"))) 0 0

abbrev pub intended_b : Entry
intended_b = entry.Intent 1 2 (codes "r1") (codes "B") (request.Create note (note_props (codes "b") (codes "u")))

abbrev pub made_b : Entry
made_b = entry.Outcome 1 2 (reply.Success (codes "r1:2") (note_attrs (codes "r1:2") 1 (codes "b") (codes "u"))) 0 0

abbrev pub created : Entry
created = entry.Done 1 status.CreateComplete []

abbrev pub updating : Entry
updating = entry.Begin 2 (codes "s") (begin.Update second)

abbrev pub intended_change : Entry
intended_change = entry.Intent 2 3 (codes "f1") (codes "A") (request.Update (codes "f1:1") (file_props (codes "a") (codes "y")))

abbrev pub changed : Entry
changed = entry.Outcome 2 3 (reply.Success (codes "f1:1") (file_attrs (codes "f1:1") 1 (codes "a") (codes "y"))) 0 0

abbrev pub intended_other : Entry
intended_other = entry.Intent 2 4 (codes "r1") (codes "B") (request.Update (codes "r1:2") (note_props (codes "b") (codes "w")))

abbrev pub refused : Entry
refused = entry.Outcome 2 4 (reply.Failed code.ServiceInternalError) 0 1

abbrev pub turned : Entry
turned = entry.Phase 2 phase.Back (Some (cause.Handler (codes "B") (reason.Code code.ServiceInternalError)))

abbrev pub intended_restore : Entry
intended_restore = entry.Intent 2 5 (codes "f1") (codes "A") (request.Update (codes "f1:1") (file_props (codes "a") (codes "x")))

abbrev pub unrestored : Entry
unrestored = entry.Outcome 2 5 (reply.Failed code.AccessDenied) 0 1

abbrev pub failed : Entry
failed = entry.Done 2 status.UpdateRollbackFailed ((codes "A") ∷ (codes "B") ∷ [])

abbrev pub opened_again : Entry
opened_again = entry.Opened 2 (lane_pair (codes "f1") file ∷ lane_pair (codes "r1") note ∷ [])

abbrev pub continued : Entry
continued = entry.Begin 3 (codes "s") (begin.Continue ((codes "A") ∷ []))

abbrev pub cleaning : Entry
cleaning = entry.Phase 3 phase.BackClean None

abbrev pub rolled_back : Entry
rolled_back = entry.Done 3 status.UpdateRollbackComplete []

abbrev pub run : List Entry
run =
    opened ∷ begun ∷ intended_a ∷ made_a ∷ intended_b ∷ made_b ∷ created ∷ updating ∷ intended_change ∷ changed ∷ intended_other ∷ refused
    ∷ turned ∷ intended_restore ∷ unrestored ∷ failed ∷ opened_again ∷ continued ∷ cleaning ∷ rolled_back ∷ []

-- each entry may follow where it stands
abbrev pub Legal : Type 0
Legal = IsLegal schemas empty_world run

-- what the report shows there
abbrev pub Fails : Type 0
Fails =
    report_of (codes "s")
    (fold_of empty_world (opened ∷ begun ∷ intended_a ∷ made_a ∷ intended_b ∷ made_b ∷ created ∷ updating ∷ intended_change ∷ changed
    ∷ intended_other ∷ refused ∷ turned ∷ intended_restore ∷ unrestored ∷ failed ∷ []))
    ≡ record (bare status.UpdateRollbackFailed 1) {
      resources = record {
        path = (codes "A");
        kind = file;
        physical = (codes "f1:1");
        status = held.UpdateFailed;
        unsure = false;
        props = (file_props (codes "a") (codes "y"));
      }
          ∷ record {
            path = (codes "B");
            kind = note;
            physical = (codes "r1:2");
            status = held.CreateComplete;
            unsure = false;
            props = (note_props (codes "b") (codes "u"));
          } ∷ [];
      failed = codes "A" ∷ codes "B" ∷ [];
    }

-- what the report shows in the end
abbrev pub Shows : Type 0
Shows =
    report_of (codes "s") (fold_of empty_world run)
    ≡ record (bare status.UpdateRollbackComplete 1) {
      resources = record {
        path = (codes "A");
        kind = file;
        physical = (codes "f1:1");
        status = held.UpdateComplete;
        unsure = true;
        props = (file_props (codes "a") (codes "x"));
      }
          ∷ record {
            path = (codes "B");
            kind = note;
            physical = (codes "r1:2");
            status = held.CreateComplete;
            unsure = false;
            props = (note_props (codes "b") (codes "u"));
          } ∷ [];
    }
