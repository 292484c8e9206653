-- A change set: another path replaces the file, and what refers to it may be replaced (this project's own).
use Rattle.std.specs.Prelude.{◌≡◌, List, [], ◌∷◌, codes, Some, None, false, ◌++◌}
use Rattle.cf_tree.specs.declared.request.Request.TheVariants as request
use Rattle.cf_tree.specs.declared.source.Source.{Source}
use Rattle.cf_entry.specs.declared.entry.Entry.{Entry}
use Rattle.cf_entry.specs.declared.entry.Entry.TheVariants as entry
use Rattle.cf_entry.specs.declared.entry.Begun.TheVariants as begin
use Rattle.cf_entry.specs.declared.entry.Reply.TheVariants as reply
use Rattle.cf_entry.specs.declared.status.Status.TheVariants as status
use Rattle.cf_entry.specs.declared.turn.Phase.TheVariants as phase
use Rattle.cf_effect.specs.declared.held.HeldStatus.TheVariants as held
use Rattle.cf_effect.specs.World.{empty_world}
use Rattle.cf_effect.specs.Fold.{fold_of}
use Rattle.cf_plan.specs.Follow.{IsLegal}
use Rattle.cf_examples.specs.Given.{file, note, file_props, file_attrs, note_props, note_attrs, schemas, source_of, lane_pair, report_of, bare, IsRefusedAfter}
use Rattle.cf_tree.specs.declared.row.Row.{Row}
use Rattle.cf_tree.specs.declared.row.Action.TheVariants as action
use Rattle.cf_tree.specs.declared.row.Replacement.TheVariants as replacement
use Rattle.cf_tree.specs.declared.row.Attribute.TheVariants as attribute
use Rattle.cf_tree.specs.declared.row.Recreation.TheVariants as recreation
use Rattle.cf_tree.specs.declared.row.Evaluation.TheVariants as evaluation

abbrev pub first : Source
first =
    source_of (codes "app") (codes "one")
    (codes "{\"Resources\":{\"Web\":{\"Type\":\"Local::Files::File\",\"Properties\":{\"Path\":\"a\",\"Content\":\"x\"}},"
    ++ codes "\"Rec\":{\"Type\":\"Local::Records::Record\",\"Properties\":{\"Key\":{\"Ref\":\"Web\"},\"Value\":\"v\"}}}}")

abbrev pub second : Source
second =
    source_of (codes "app") (codes "two")
    (codes "{\"Resources\":{\"Web\":{\"Type\":\"Local::Files::File\",\"Properties\":{\"Path\":\"b\",\"Content\":\"x\"}},"
    ++ codes "\"Rec\":{\"Type\":\"Local::Records::Record\",\"Properties\":{\"Key\":{\"Ref\":\"Web\"},\"Value\":\"v\"}}}}")

abbrev pub rows : List Row
rows =
    record {
      action = action.Modify;
      path = codes "Rec";
      kind = note;
      replacement = Some replacement.Conditional;
      unsure = false;
      details = record {
        attribute = attribute.Properties;
        name = codes "Key";
        recreation = recreation.Always;
        evaluation = evaluation.Dynamic;
      } ∷ [];
    }
    ∷ record {
      action = action.Modify;
      path = codes "Web";
      kind = file;
      replacement = Some replacement.True;
      unsure = false;
      details = record {
        attribute = attribute.Properties;
        name = codes "Path";
        recreation = recreation.Always;
        evaluation = evaluation.Static;
      } ∷ [];
    } ∷ []

abbrev pub opened : Entry
opened = entry.Opened 1 (lane_pair (codes "f1") file ∷ lane_pair (codes "r1") note ∷ [])

abbrev pub begun : Entry
begun = entry.Begin 1 (codes "app") (begin.Create first)

abbrev pub intended_web : Entry
intended_web = entry.Intent 1 1 (codes "f1") (codes "Web") (request.Create file (file_props (codes "a") (codes "x")))

abbrev pub made_web : Entry
made_web = entry.Outcome 1 1 (reply.Success (codes "f1:1") (file_attrs (codes "f1:1") 1 (codes "a") (codes "x"))) 0 0

abbrev pub intended_rec : Entry
intended_rec = entry.Intent 1 2 (codes "r1") (codes "Rec") (request.Create note (note_props (codes "f1:1") (codes "v")))

abbrev pub made_rec : Entry
made_rec = entry.Outcome 1 2 (reply.Success (codes "r1:2") (note_attrs (codes "r1:2") 1 (codes "f1:1") (codes "v"))) 0 0

abbrev pub created : Entry
created = entry.Done 1 status.CreateComplete []

abbrev pub reviewed : Entry
reviewed = entry.ChangeSet 1 (codes "app") second rows false

abbrev pub run : List Entry
run = opened ∷ begun ∷ intended_web ∷ made_web ∷ intended_rec ∷ made_rec ∷ created ∷ reviewed ∷ []

-- each entry may follow where it stands
abbrev pub Legal : Type 0
Legal = IsLegal schemas empty_world run

-- what the report shows in the end
abbrev pub Shows : Type 0
Shows =
    report_of (codes "app") (fold_of empty_world run)
    ≡ record (bare status.CreateComplete 1) {
      resources = record {
        path = (codes "Rec");
        kind = note;
        physical = (codes "r1:2");
        status = held.CreateComplete;
        unsure = false;
        props = (note_props (codes "f1:1") (codes "v"));
      }
          ∷ record {
            path = (codes "Web");
            kind = file;
            physical = (codes "f1:1");
            status = held.CreateComplete;
            unsure = false;
            props = (file_props (codes "a") (codes "x"));
          } ∷ [];
    }

-- A set has just the rows that its source comes to.
abbrev pub OtherRows : Type 0
OtherRows =
    IsRefusedAfter (opened ∷ begun ∷ intended_web ∷ made_web ∷ intended_rec ∷ made_rec ∷ created ∷ [])
    (entry.ChangeSet 1 (codes "app") second [] false)

-- Carried out, the set replaces both: the record's key comes to another id.
abbrev pub updating : Entry
updating = entry.Begin 2 (codes "app") (begin.Update second)

abbrev pub intended_web_new : Entry
intended_web_new = entry.Intent 2 3 (codes "f1") (codes "Web") (request.Create file (file_props (codes "b") (codes "x")))

abbrev pub made_web_new : Entry
made_web_new = entry.Outcome 2 3 (reply.Success (codes "f1:3") (file_attrs (codes "f1:3") 1 (codes "b") (codes "x"))) 0 0

abbrev pub intended_rec_new : Entry
intended_rec_new = entry.Intent 2 4 (codes "r1") (codes "Rec") (request.Create note (note_props (codes "f1:3") (codes "v")))

abbrev pub made_rec_new : Entry
made_rec_new = entry.Outcome 2 4 (reply.Success (codes "r1:4") (note_attrs (codes "r1:4") 1 (codes "f1:3") (codes "v"))) 0 0

abbrev pub cleaning : Entry
cleaning = entry.Phase 2 phase.Clean None

abbrev pub intended_rec_gone : Entry
intended_rec_gone = entry.Intent 2 5 (codes "r1") (codes "Rec") (request.Delete (codes "r1:2"))

abbrev pub rec_gone : Entry
rec_gone = entry.Outcome 2 5 (reply.Success (codes "r1:2") []) 0 0

abbrev pub intended_web_gone : Entry
intended_web_gone = entry.Intent 2 6 (codes "f1") (codes "Web") (request.Delete (codes "f1:1"))

abbrev pub web_gone : Entry
web_gone = entry.Outcome 2 6 (reply.Success (codes "f1:1") []) 0 0

abbrev pub updated : Entry
updated = entry.Done 2 status.UpdateComplete []

abbrev pub run_carried_out : List Entry
run_carried_out =
    run ++ updating ∷ intended_web_new ∷ made_web_new ∷ intended_rec_new ∷ made_rec_new ∷ cleaning ∷ intended_rec_gone ∷ rec_gone
    ∷ intended_web_gone ∷ web_gone ∷ updated ∷ []

abbrev pub CarriedOutIsLegal : Type 0
CarriedOutIsLegal = IsLegal schemas empty_world run_carried_out

-- what the report shows then
abbrev pub ShowsCarriedOut : Type 0
ShowsCarriedOut =
    report_of (codes "app") (fold_of empty_world run_carried_out)
    ≡ record (bare status.UpdateComplete 1) {
      resources = record {
        path = (codes "Rec");
        kind = note;
        physical = (codes "r1:4");
        status = held.UpdateComplete;
        unsure = false;
        props = (note_props (codes "f1:3") (codes "v"));
      }
          ∷ record {
            path = (codes "Web");
            kind = file;
            physical = (codes "f1:3");
            status = held.UpdateComplete;
            unsure = false;
            props = (file_props (codes "b") (codes "x"));
          } ∷ [];
    }
