-- An update breaks off each time that it is called: the rollback fails, and a continued one skips it (this project's own).
use Rattle.std.specs.Prelude.{◌≡◌, List, [], ◌∷◌, ◌++◌, codes, Some, None, true, false}
use Rattle.cf_tree.specs.declared.request.Request.TheVariants as request
use Rattle.cf_tree.specs.declared.source.Source.{Source}
use Rattle.cf_tree.specs.declared.row.Row.{Row}
use Rattle.cf_tree.specs.declared.row.Action.TheVariants as action
use Rattle.cf_tree.specs.declared.row.Replacement.TheVariants as replacement
use Rattle.cf_entry.specs.declared.entry.Entry.{Entry}
use Rattle.cf_entry.specs.declared.entry.Entry.TheVariants as entry
use Rattle.cf_entry.specs.declared.entry.Begun.TheVariants as begin
use Rattle.cf_entry.specs.declared.entry.Reply.TheVariants as reply
use Rattle.cf_entry.specs.declared.status.Status.TheVariants as status
use Rattle.cf_entry.specs.declared.turn.Cause.TheVariants as cause
use Rattle.cf_entry.specs.declared.turn.Phase.TheVariants as phase
use Rattle.cf_entry.specs.declared.turn.Reason.TheVariants as reason
use Rattle.cf_effect.specs.declared.held.HeldStatus.TheVariants as held
use Rattle.cf_effect.specs.World.{empty_world}
use Rattle.cf_effect.specs.Fold.{fold_of}
use Rattle.cf_plan.specs.Follow.{IsLegal}
use Rattle.cf_examples.specs.Given.{file, file_props, file_attrs, schemas, source_of, lane_pair, report_of, bare, IsRefusedAfter}

abbrev pub first : Source
first =
    source_of (codes "s") (codes "one")
    (codes "{\"Resources\":{\"A\":{\"Type\":\"Local::Files::File\",\"Properties\":{\"Path\":\"a\",\"Content\":\"x\"}}}}")

abbrev pub second : Source
second =
    source_of (codes "s") (codes "two")
    (codes "{\"Resources\":{\"A\":{\"Type\":\"Local::Files::File\",\"Properties\":{\"Path\":\"a\",\"Content\":\"y\"}}}}")

abbrev pub opened : Entry
opened = entry.Opened 1 (lane_pair (codes "f1") file ∷ [])

abbrev pub begun : Entry
begun = entry.Begin 1 (codes "s") (begin.Create first)

abbrev pub intended : Entry
intended = entry.Intent 1 1 (codes "f1") (codes "A") (request.Create file (file_props (codes "a") (codes "x")))

abbrev pub made : Entry
made = entry.Outcome 1 1 (reply.Success (codes "f1:1") (file_attrs (codes "f1:1") 1 (codes "a") (codes "x"))) 0 0

abbrev pub created : Entry
created = entry.Done 1 status.CreateComplete []

abbrev pub updating : Entry
updating = entry.Begin 2 (codes "s") (begin.Update second)

abbrev pub intended_change : Entry
intended_change = entry.Intent 2 2 (codes "f1") (codes "A") (request.Update (codes "f1:1") (file_props (codes "a") (codes "y")))

abbrev pub broken_once : Entry
broken_once = entry.Outcome 2 2 reply.Doubt 0 1

abbrev pub broken_twice : Entry
broken_twice = entry.Outcome 2 2 reply.Doubt 1 2

abbrev pub broken_thrice : Entry
broken_thrice = entry.Outcome 2 2 reply.Doubt 2 3

abbrev pub turned : Entry
turned = entry.Phase 2 phase.Back (Some (cause.Handler (codes "A") reason.Fault))

abbrev pub broken_back_once : Entry
broken_back_once = entry.Outcome 2 2 reply.Doubt 3 4

abbrev pub broken_back_twice : Entry
broken_back_twice = entry.Outcome 2 2 reply.Doubt 4 5

abbrev pub broken_back_thrice : Entry
broken_back_thrice = entry.Outcome 2 2 reply.Doubt 5 6

abbrev pub failed : Entry
failed = entry.Done 2 status.UpdateRollbackFailed ((codes "A") ∷ [])

abbrev pub opened_again : Entry
opened_again = entry.Opened 2 (lane_pair (codes "f1") file ∷ [])

abbrev pub continued : Entry
continued = entry.Begin 3 (codes "s") (begin.Continue ((codes "A") ∷ []))

abbrev pub cleaning : Entry
cleaning = entry.Phase 3 phase.BackClean None

abbrev pub rolled_back : Entry
rolled_back = entry.Done 3 status.UpdateRollbackComplete []

abbrev pub run : List Entry
run =
    opened ∷ begun ∷ intended ∷ made ∷ created ∷ updating ∷ intended_change ∷ broken_once ∷ broken_twice ∷ broken_thrice ∷ turned
    ∷ broken_back_once ∷ broken_back_twice ∷ broken_back_thrice ∷ failed ∷ opened_again ∷ continued ∷ cleaning ∷ rolled_back ∷ []

-- each entry may follow where it stands
abbrev pub Legal : Type 0
Legal = IsLegal schemas empty_world run

-- what the report shows where the rollback has failed
abbrev pub until_failed : List Entry
until_failed =
    opened ∷ begun ∷ intended ∷ made ∷ created ∷ updating ∷ intended_change ∷ broken_once ∷ broken_twice ∷ broken_thrice ∷ turned
    ∷ broken_back_once ∷ broken_back_twice ∷ broken_back_thrice ∷ failed ∷ []

abbrev pub Fails : Type 0
Fails =
    report_of (codes "s") (fold_of empty_world until_failed)
    ≡ record (bare status.UpdateRollbackFailed 1) {
      resources = record {
        path = (codes "A");
        kind = file;
        physical = (codes "f1:1");
        status = held.UpdateFailed;
        unsure = false;
        props = (file_props (codes "a") (codes "x"));
      } ∷ [];
      failed = codes "A" ∷ [];
    }

-- what the report shows in the end
abbrev pub Shows : Type 0
Shows =
    report_of (codes "s") (fold_of empty_world run)
    ≡ record (bare status.UpdateRollbackComplete 1) {
      resources = record {
        path = (codes "A");
        kind = file;
        physical = (codes "f1:1");
        status = held.UpdateComplete;
        unsure = true;
        props = (file_props (codes "a") (codes "x"));
      } ∷ [];
    }

-- Only a path that failed may be skipped.
abbrev pub until_opened_again : List Entry
until_opened_again = until_failed ++ opened_again ∷ []

abbrev pub SkipsAnother : Type 0
SkipsAnother = IsRefusedAfter until_opened_again (entry.Begin 3 (codes "s") (begin.Continue (codes "B" ∷ [])))

-- A continued rollback needs an opening behind the end that failed: what the broken call may still do is over only then.
abbrev pub ContinuedAtOnce : Type 0
ContinuedAtOnce = IsRefusedAfter until_failed continued

-- A change set with the first template then has a row for the file, which is unsure though nothing of it differs; without the row it is
-- refused.
abbrev pub rows : List Row
rows = record { action = action.Modify; path = codes "A"; kind = file; replacement = Some replacement.False; unsure = true; details = [] }
    ∷ []

abbrev pub reviewed : List Row → Entry
reviewed rs = entry.ChangeSet 1 (codes "s") first rs false

abbrev pub ReviewIsLegal : Type 0
ReviewIsLegal = IsLegal schemas empty_world (run ++ reviewed rows ∷ [])

abbrev pub UnsureLeftOut : Type 0
UnsureLeftOut = IsRefusedAfter run (reviewed [])
