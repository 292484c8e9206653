-- An update makes a resource and is refused at another: what it made is deleted in the cleanup of the rollback, and not before (this
-- project's own).
use Rattle.std.specs.Prelude.{◌≡◌, List, [], ◌∷◌, codes, Some, None, false, ◌++◌}
use Rattle.cf_tree.specs.declared.code.Code.TheVariants as code
use Rattle.cf_tree.specs.declared.request.Request.TheVariants as request
use Rattle.cf_tree.specs.declared.source.Source.{Source}
use Rattle.cf_entry.specs.declared.entry.Entry.{Entry}
use Rattle.cf_entry.specs.declared.entry.Entry.TheVariants as entry
use Rattle.cf_entry.specs.declared.entry.Begun.TheVariants as begin
use Rattle.cf_entry.specs.declared.entry.Reply.TheVariants as reply
use Rattle.cf_entry.specs.declared.status.Status.TheVariants as status
use Rattle.cf_entry.specs.declared.turn.Cause.TheVariants as cause
use Rattle.cf_entry.specs.declared.turn.Phase.TheVariants as phase
use Rattle.cf_entry.specs.declared.turn.Reason.TheVariants as reason
use Rattle.cf_effect.specs.declared.held.HeldStatus.TheVariants as held
use Rattle.cf_effect.specs.World.{empty_world}
use Rattle.cf_effect.specs.Fold.{fold_of}
use Rattle.cf_plan.specs.Follow.{IsLegal}
use Rattle.cf_examples.specs.Given.{file, note, file_props, file_attrs, note_props, schemas, source_of, lane_pair, report_of, bare, IsRefusedAfter}

abbrev pub first : Source
first =
    source_of (codes "s") (codes "one")
    (codes "{\"Resources\":{\"A\":{\"Type\":\"Local::Files::File\",\"Properties\":{\"Path\":\"a\",\"Content\":\"x\"}}}}")

abbrev pub second : Source
second =
    source_of (codes "s") (codes "two")
    (codes "{\"Resources\":{\"A\":{\"Type\":\"Local::Files::File\",\"Properties\":{\"Path\":\"b\",\"Content\":\"x\"}},"
    ++ codes "\"B\":{\"Type\":\"Local::Records::Record\",\"DependsOn\":\"A\",\"Properties\":{\"Key\":\"b\",\"Value\":\"u\"}}}}")

abbrev pub opened : Entry
opened = entry.Opened 1 (lane_pair (codes "f1") file ∷ lane_pair (codes "r1") note ∷ [])

abbrev pub begun : Entry
begun = entry.Begin 1 (codes "s") (begin.Create first)

abbrev pub intended : Entry
intended = entry.Intent 1 1 (codes "f1") (codes "A") (request.Create file (file_props (codes "a") (codes "x")))

abbrev pub made : Entry
made = entry.Outcome 1 1 (reply.Success (codes "f1:1") (file_attrs (codes "f1:1") 1 (codes "a") (codes "x"))) 0 0

abbrev pub created : Entry
created = entry.Done 1 status.CreateComplete []

abbrev pub updating : Entry
updating = entry.Begin 2 (codes "s") (begin.Update second)

abbrev pub intended_new : Entry
intended_new = entry.Intent 2 2 (codes "f1") (codes "A") (request.Create file (file_props (codes "b") (codes "x")))

abbrev pub made_new : Entry
made_new = entry.Outcome 2 2 (reply.Success (codes "f1:2") (file_attrs (codes "f1:2") 1 (codes "b") (codes "x"))) 0 0

abbrev pub intended_other : Entry
intended_other = entry.Intent 2 3 (codes "r1") (codes "B") (request.Create note (note_props (codes "b") (codes "u")))

abbrev pub refused : Entry
refused = entry.Outcome 2 3 (reply.Failed code.AccessDenied) 0 1

abbrev pub turned : Entry
turned = entry.Phase 2 phase.Back (Some (cause.Handler (codes "B") (reason.Code code.AccessDenied)))

abbrev pub cleaning : Entry
cleaning = entry.Phase 2 phase.BackClean None

abbrev pub intended_deletion : Entry
intended_deletion = entry.Intent 2 4 (codes "f1") (codes "A") (request.Delete (codes "f1:2"))

abbrev pub deleted : Entry
deleted = entry.Outcome 2 4 (reply.Success (codes "f1:2") []) 0 0

abbrev pub rolled_back : Entry
rolled_back = entry.Done 2 status.UpdateRollbackComplete []

abbrev pub run : List Entry
run =
    opened ∷ begun ∷ intended ∷ made ∷ created ∷ updating ∷ intended_new ∷ made_new ∷ intended_other ∷ refused ∷ turned ∷ cleaning
    ∷ intended_deletion ∷ deleted ∷ rolled_back ∷ []

-- each entry may follow where it stands
abbrev pub Legal : Type 0
Legal = IsLegal schemas empty_world run

-- what the report shows in the end
abbrev pub Shows : Type 0
Shows =
    report_of (codes "s") (fold_of empty_world run)
    ≡ record (bare status.UpdateRollbackComplete 1) {
      resources = record {
        path = (codes "A");
        kind = file;
        physical = (codes "f1:1");
        status = held.CreateComplete;
        unsure = false;
        props = (file_props (codes "a") (codes "x"));
      } ∷ [];
    }

-- What the update made may not be deleted before the cleanup.
abbrev pub DeletedInTheRollback : Type 0
DeletedInTheRollback =
    IsRefusedAfter (opened ∷ begun ∷ intended ∷ made ∷ created ∷ updating ∷ intended_new ∷ made_new ∷ intended_other ∷ refused ∷ turned
    ∷ []) (entry.Intent 2 4 (codes "f1") (codes "A") (request.Delete (codes "f1:2")))
