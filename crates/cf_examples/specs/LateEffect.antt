-- An update breaks off three times, and acts late: the first repeat on the way back meets it, and what was there is given back (this
-- project's own).
use Rattle.std.specs.Prelude.{◌≡◌, List, [], ◌∷◌, codes, Some, None, false}
use Rattle.cf_tree.specs.declared.request.Request.TheVariants as request
use Rattle.cf_tree.specs.declared.source.Source.{Source}
use Rattle.cf_entry.specs.declared.entry.Entry.{Entry}
use Rattle.cf_entry.specs.declared.entry.Entry.TheVariants as entry
use Rattle.cf_entry.specs.declared.entry.Begun.TheVariants as begin
use Rattle.cf_entry.specs.declared.entry.Reply.TheVariants as reply
use Rattle.cf_entry.specs.declared.status.Status.TheVariants as status
use Rattle.cf_entry.specs.declared.turn.Cause.TheVariants as cause
use Rattle.cf_entry.specs.declared.turn.Phase.TheVariants as phase
use Rattle.cf_entry.specs.declared.turn.Reason.TheVariants as reason
use Rattle.cf_effect.specs.declared.held.HeldStatus.TheVariants as held
use Rattle.cf_effect.specs.World.{empty_world}
use Rattle.cf_effect.specs.Fold.{fold_of}
use Rattle.cf_plan.specs.Follow.{IsLegal}
use Rattle.cf_examples.specs.Given.{file, file_props, file_attrs, schemas, source_of, lane_pair, report_of, bare}

abbrev pub first : Source
first =
    source_of (codes "s") (codes "one")
    (codes "{\"Resources\":{\"A\":{\"Type\":\"Local::Files::File\",\"Properties\":{\"Path\":\"a\",\"Content\":\"x\"}}}}")

abbrev pub second : Source
second =
    source_of (codes "s") (codes "two")
    (codes "{\"Resources\":{\"A\":{\"Type\":\"Local::Files::File\",\"Properties\":{\"Path\":\"a\",\"Content\":\"y\"}}}}")

abbrev pub opened : Entry
opened = entry.Opened 1 (lane_pair (codes "f1") file ∷ [])

abbrev pub begun : Entry
begun = entry.Begin 1 (codes "s") (begin.Create first)

abbrev pub intended : Entry
intended = entry.Intent 1 1 (codes "f1") (codes "A") (request.Create file (file_props (codes "a") (codes "x")))

abbrev pub made : Entry
made = entry.Outcome 1 1 (reply.Success (codes "f1:1") (file_attrs (codes "f1:1") 1 (codes "a") (codes "x"))) 0 0

abbrev pub created : Entry
created = entry.Done 1 status.CreateComplete []

abbrev pub updating : Entry
updating = entry.Begin 2 (codes "s") (begin.Update second)

abbrev pub intended_change : Entry
intended_change = entry.Intent 2 2 (codes "f1") (codes "A") (request.Update (codes "f1:1") (file_props (codes "a") (codes "y")))

abbrev pub broken_once : Entry
broken_once = entry.Outcome 2 2 reply.Doubt 0 1

abbrev pub broken_twice : Entry
broken_twice = entry.Outcome 2 2 reply.Doubt 1 2

abbrev pub broken_thrice : Entry
broken_thrice = entry.Outcome 2 2 reply.Doubt 2 3

abbrev pub turned : Entry
turned = entry.Phase 2 phase.Back (Some (cause.Handler (codes "A") reason.Fault))

abbrev pub repeated : Entry
repeated = entry.Outcome 2 2 (reply.Success (codes "f1:1") (file_attrs (codes "f1:1") 1 (codes "a") (codes "y"))) 3 3

abbrev pub intended_restore : Entry
intended_restore = entry.Intent 2 3 (codes "f1") (codes "A") (request.Update (codes "f1:1") (file_props (codes "a") (codes "x")))

abbrev pub restored : Entry
restored = entry.Outcome 2 3 (reply.Success (codes "f1:1") (file_attrs (codes "f1:1") 1 (codes "a") (codes "x"))) 3 3

abbrev pub cleaning : Entry
cleaning = entry.Phase 2 phase.BackClean None

abbrev pub rolled_back : Entry
rolled_back = entry.Done 2 status.UpdateRollbackComplete []

abbrev pub run : List Entry
run =
    opened ∷ begun ∷ intended ∷ made ∷ created ∷ updating ∷ intended_change ∷ broken_once ∷ broken_twice ∷ broken_thrice ∷ turned ∷ repeated
    ∷ intended_restore ∷ restored ∷ cleaning ∷ rolled_back ∷ []

-- each entry may follow where it stands
abbrev pub Legal : Type 0
Legal = IsLegal schemas empty_world run

-- what the report shows in the end
abbrev pub Shows : Type 0
Shows =
    report_of (codes "s") (fold_of empty_world run)
    ≡ record (bare status.UpdateRollbackComplete 1) {
      resources = record {
        path = (codes "A");
        kind = file;
        physical = (codes "f1:1");
        status = held.UpdateComplete;
        unsure = false;
        props = (file_props (codes "a") (codes "x"));
      } ∷ [];
    }
