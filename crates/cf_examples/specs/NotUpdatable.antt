-- An update that is answered NotUpdatable where a conditional property differs becomes a replacement (this project's own).
use Rattle.std.specs.Prelude.{◌≡◌, List, [], ◌∷◌, codes, None, false}
use Rattle.cf_tree.specs.Datum.{text}
use Rattle.cf_tree.specs.declared.code.Code.TheVariants as code
use Rattle.cf_tree.specs.declared.request.Request.TheVariants as request
use Rattle.cf_tree.specs.declared.source.Source.{Source}
use Rattle.cf_entry.specs.declared.entry.Entry.{Entry}
use Rattle.cf_entry.specs.declared.entry.Entry.TheVariants as entry
use Rattle.cf_entry.specs.declared.entry.Begun.TheVariants as begin
use Rattle.cf_entry.specs.declared.entry.Reply.TheVariants as reply
use Rattle.cf_entry.specs.declared.status.Status.TheVariants as status
use Rattle.cf_entry.specs.declared.turn.Phase.TheVariants as phase
use Rattle.cf_effect.specs.declared.held.HeldStatus.TheVariants as held
use Rattle.cf_effect.specs.World.{empty_world}
use Rattle.cf_effect.specs.Fold.{fold_of}
use Rattle.cf_plan.specs.Follow.{IsLegal}
use Rattle.cf_examples.specs.Given.{note, note_props, note_attrs, schemas, source_of, lane_pair, report_of, bare}

abbrev pub first : Source
first =
    source_of (codes "s") (codes "one")
    (codes "{\"Resources\":{\"K\":{\"Type\":\"Local::Records::Record\",\"Properties\":{\"Key\":\"k\",\"Value\":\"v\",\"Class\":\"sealed\"}}}}")

abbrev pub second : Source
second =
    source_of (codes "s") (codes "two")
    (codes "{\"Resources\":{\"K\":{\"Type\":\"Local::Records::Record\",\"Properties\":{\"Key\":\"k\",\"Value\":\"v\",\"Class\":\"plain\"}}}}")

abbrev pub opened : Entry
opened = entry.Opened 1 (lane_pair (codes "r1") note ∷ [])

abbrev pub begun : Entry
begun = entry.Begin 1 (codes "s") (begin.Create first)

abbrev pub intended : Entry
intended =
    entry.Intent 1 1 (codes "r1") (codes "K")
    (request.Create note ((codes "Class", text (codes "sealed")) ∷ (note_props (codes "k") (codes "v"))))

abbrev pub made : Entry
made = entry.Outcome 1 1 (reply.Success (codes "r1:1")
    ((codes "Class", text (codes "sealed")) ∷ (note_attrs (codes "r1:1") 1 (codes "k") (codes "v")))) 0 0

abbrev pub created : Entry
created = entry.Done 1 status.CreateComplete []

abbrev pub updating : Entry
updating = entry.Begin 2 (codes "s") (begin.Update second)

abbrev pub intended_change : Entry
intended_change =
    entry.Intent 2 2 (codes "r1") (codes "K")
    (request.Update (codes "r1:1") ((codes "Class", text (codes "plain")) ∷ (note_props (codes "k") (codes "v"))))

abbrev pub not_updatable : Entry
not_updatable = entry.Outcome 2 2 (reply.Failed code.NotUpdatable) 0 1

abbrev pub intended_new : Entry
intended_new =
    entry.Intent 2 3 (codes "r1") (codes "K")
    (request.Create note ((codes "Class", text (codes "plain")) ∷ (note_props (codes "k") (codes "v"))))

abbrev pub made_new : Entry
made_new =
    entry.Outcome 2 3 (reply.Success (codes "r1:3")
    ((codes "Class", text (codes "plain")) ∷ (note_attrs (codes "r1:3") 1 (codes "k") (codes "v")))) 1 1

abbrev pub cleaning : Entry
cleaning = entry.Phase 2 phase.Clean None

abbrev pub intended_deletion : Entry
intended_deletion = entry.Intent 2 4 (codes "r1") (codes "K") (request.Delete (codes "r1:1"))

abbrev pub deleted : Entry
deleted = entry.Outcome 2 4 (reply.Success (codes "r1:1") []) 1 1

abbrev pub updated : Entry
updated = entry.Done 2 status.UpdateComplete []

abbrev pub run : List Entry
run =
    opened ∷ begun ∷ intended ∷ made ∷ created ∷ updating ∷ intended_change ∷ not_updatable ∷ intended_new ∷ made_new ∷ cleaning
    ∷ intended_deletion ∷ deleted ∷ updated ∷ []

-- each entry may follow where it stands
abbrev pub Legal : Type 0
Legal = IsLegal schemas empty_world run

-- what the report shows in the end
abbrev pub Shows : Type 0
Shows =
    report_of (codes "s") (fold_of empty_world run)
    ≡ record (bare status.UpdateComplete 1) {
      resources = record {
        path = (codes "K");
        kind = note;
        physical = (codes "r1:3");
        status = held.UpdateComplete;
        unsure = false;
        props = ((codes "Class", text (codes "plain")) ∷ (note_props (codes "k") (codes "v")));
      } ∷ [];
    }
