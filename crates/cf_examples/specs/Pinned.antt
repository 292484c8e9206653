-- A stack exports the length of a file, and another one imports it: an update that would change the length is taken back (this project's
-- own).
use Rattle.std.specs.Prelude.{◌≡◌, List, [], ◌∷◌, codes, Some, None, false, ◌++◌}
use Rattle.cf_tree.specs.declared.request.Request.TheVariants as request
use Rattle.cf_tree.specs.declared.source.Source.{Source}
use Rattle.cf_entry.specs.declared.entry.Entry.{Entry}
use Rattle.cf_entry.specs.declared.entry.Entry.TheVariants as entry
use Rattle.cf_entry.specs.declared.entry.Begun.TheVariants as begin
use Rattle.cf_entry.specs.declared.entry.Reply.TheVariants as reply
use Rattle.cf_entry.specs.declared.status.Status.TheVariants as status
use Rattle.cf_entry.specs.declared.turn.Cause.TheVariants as cause
use Rattle.cf_entry.specs.declared.turn.Phase.TheVariants as phase
use Rattle.cf_effect.specs.declared.held.HeldStatus.TheVariants as held
use Rattle.cf_effect.specs.World.{empty_world}
use Rattle.cf_effect.specs.Fold.{fold_of}
use Rattle.cf_plan.specs.Follow.{IsLegal}
use Rattle.cf_examples.specs.Given.{file, note, file_props, file_attrs, note_props, note_attrs, schemas, source_of, lane_pair, report_of, bare, IsRefusedAfter}

abbrev pub first : Source
first =
    source_of (codes "site") (codes "one")
    (codes "{\"Resources\":{\"A\":{\"Type\":\"Local::Files::File\",\"Properties\":{\"Path\":\"a\",\"Content\":\"xx\"}}},"
    ++ codes "\"Outputs\":{\"Total\":{\"Value\":{\"Fn::GetAtt\":[\"A\",\"Length\"]},\"Export\":{\"Name\":\"site-total\"}}}}")

abbrev pub second : Source
second =
    source_of (codes "site") (codes "two")
    (codes "{\"Resources\":{\"A\":{\"Type\":\"Local::Files::File\",\"Properties\":{\"Path\":\"a\",\"Content\":\"xxx\"}}},"
    ++ codes "\"Outputs\":{\"Total\":{\"Value\":{\"Fn::GetAtt\":[\"A\",\"Length\"]},\"Export\":{\"Name\":\"site-total\"}}}}")

abbrev pub importing : Source
importing =
    record {
      root = (codes "user");
      texts = ((
        (codes "user"),
        (codes "{\"Resources\":{\"U\":{\"Type\":\"Local::Records::Record\",\"Properties\":{\"Key\":\"u\",\"Value\":{\"Fn::ImportValue\":\"site-total\"}}}}}"),
      )
          ∷ []);
      given = [];
      imports = (((codes "site-total"), (codes "2")) ∷ []);
      stack = (codes "user");
      number = 0;
    }

abbrev pub opened : Entry
opened = entry.Opened 1 (lane_pair (codes "f1") file ∷ lane_pair (codes "r1") note ∷ [])

abbrev pub begun : Entry
begun = entry.Begin 1 (codes "site") (begin.Create first)

abbrev pub intended_file : Entry
intended_file = entry.Intent 1 1 (codes "f1") (codes "A") (request.Create file (file_props (codes "a") (codes "xx")))

abbrev pub made_file : Entry
made_file = entry.Outcome 1 1 (reply.Success (codes "f1:1") (file_attrs (codes "f1:1") 2 (codes "a") (codes "xx"))) 0 0

abbrev pub created : Entry
created = entry.Done 1 status.CreateComplete []

abbrev pub begun_user : Entry
begun_user = entry.Begin 2 (codes "user") (begin.Create importing)

abbrev pub intended_record : Entry
intended_record = entry.Intent 2 2 (codes "r1") (codes "U") (request.Create note (note_props (codes "u") (codes "2")))

abbrev pub made_record : Entry
made_record = entry.Outcome 2 2 (reply.Success (codes "r1:2") (note_attrs (codes "r1:2") 1 (codes "u") (codes "2"))) 0 0

abbrev pub created_user : Entry
created_user = entry.Done 2 status.CreateComplete []

abbrev pub updating : Entry
updating = entry.Begin 3 (codes "site") (begin.Update second)

abbrev pub intended_change : Entry
intended_change = entry.Intent 3 3 (codes "f1") (codes "A") (request.Update (codes "f1:1") (file_props (codes "a") (codes "xxx")))

abbrev pub changed : Entry
changed = entry.Outcome 3 3 (reply.Success (codes "f1:1") (file_attrs (codes "f1:1") 3 (codes "a") (codes "xxx"))) 0 0

abbrev pub turned : Entry
turned = entry.Phase 3 phase.Back (Some (cause.Export (codes "site-total")))

abbrev pub intended_restore : Entry
intended_restore = entry.Intent 3 4 (codes "f1") (codes "A") (request.Update (codes "f1:1") (file_props (codes "a") (codes "xx")))

abbrev pub restored : Entry
restored = entry.Outcome 3 4 (reply.Success (codes "f1:1") (file_attrs (codes "f1:1") 2 (codes "a") (codes "xx"))) 0 0

abbrev pub cleaning : Entry
cleaning = entry.Phase 3 phase.BackClean None

abbrev pub rolled_back : Entry
rolled_back = entry.Done 3 status.UpdateRollbackComplete []

abbrev pub run : List Entry
run =
    opened ∷ begun ∷ intended_file ∷ made_file ∷ created ∷ begun_user ∷ intended_record ∷ made_record ∷ created_user ∷ updating
    ∷ intended_change ∷ changed ∷ turned ∷ intended_restore ∷ restored ∷ cleaning ∷ rolled_back ∷ []

-- each entry may follow where it stands
abbrev pub Legal : Type 0
Legal = IsLegal schemas empty_world run

-- what the report shows in the end
abbrev pub Shows : Type 0
Shows =
    report_of (codes "site") (fold_of empty_world run)
    ≡ record (bare status.UpdateRollbackComplete 1) {
      resources = record {
        path = (codes "A");
        kind = file;
        physical = (codes "f1:1");
        status = held.UpdateComplete;
        unsure = false;
        props = (file_props (codes "a") (codes "xx"));
      } ∷ [];
      outputs = record { name = codes "Total"; value = codes "2"; export = Some (codes "site-total") } ∷ [];
      exports = (codes "site-total", codes "2") ∷ [];
    }

-- The cleanup may not begin where a value that another stack imports would change.
abbrev pub ChangedThoughPinned : Type 0
ChangedThoughPinned =
    IsRefusedAfter (opened ∷ begun ∷ intended_file ∷ made_file ∷ created ∷ begun_user ∷ intended_record ∷ made_record ∷ created_user
    ∷ updating ∷ intended_change ∷ changed ∷ []) (entry.Phase 3 phase.Clean None)

-- A stack may not be deleted while another one imports its export.
abbrev pub DeletedThoughPinned : Type 0
DeletedThoughPinned =
    IsRefusedAfter (opened ∷ begun ∷ intended_file ∷ made_file ∷ created ∷ begun_user ∷ intended_record ∷ made_record ∷ created_user
    ∷ updating ∷ intended_change ∷ changed ∷ turned ∷ intended_restore ∷ restored ∷ cleaning ∷ rolled_back ∷ [])
    (entry.Begin 4 (codes "site") (begin.Delete []))
