-- The site is to be updated while its exported value is imported: what was updated comes to another value, which no end may
-- leave, so both resources are given back (this project's own).
use Rattle.std.specs.Prelude.{◌≡◌, List, [], ◌∷◌, ◌++◌, codes, Some, None, false}
use Rattle.cf_tree.specs.declared.request.Request.TheVariants as request
use Rattle.cf_tree.specs.declared.source.Source.{Source}
use Rattle.cf_entry.specs.declared.entry.Entry.{Entry}
use Rattle.cf_entry.specs.declared.entry.Entry.TheVariants as entry
use Rattle.cf_entry.specs.declared.entry.Begun.TheVariants as begin
use Rattle.cf_entry.specs.declared.entry.Reply.TheVariants as reply
use Rattle.cf_entry.specs.declared.status.Status.TheVariants as status
use Rattle.cf_entry.specs.declared.turn.Cause.TheVariants as cause
use Rattle.cf_entry.specs.declared.turn.Phase.TheVariants as phase
use Rattle.cf_effect.specs.declared.held.HeldStatus.TheVariants as held
use Rattle.cf_effect.specs.World.{empty_world}
use Rattle.cf_effect.specs.Fold.{fold_of}
use Rattle.cf_plan.specs.Follow.{IsLegal}
use Rattle.cf_examples.specs.Given.{file, note, file_props, file_attrs, note_props, note_attrs, schemas, report_of, bare}
use Rattle.cf_examples.specs.Site.{real, until_used}

abbrev pub other_hosts : Source
other_hosts = record real { given = (codes "Hosts", codes "a,b") ∷ (codes "Stage", codes "prod") ∷ [] }

abbrev pub updating : Entry
updating = entry.Begin 3 (codes "site") (begin.Update other_hosts)

abbrev pub intended_home_change : Entry
intended_home_change =
    entry.Intent 3 7 (codes "f1") (codes "Home") (request.Update (codes "f1:3") (file_props (codes "home.txt") (codes "b")))

abbrev pub changed_home : Entry
changed_home = entry.Outcome 3 7 (reply.Success (codes "f1:3") (file_attrs (codes "f1:3") 1 (codes "home.txt") (codes "b"))) 0 0

abbrev pub intended_size_change : Entry
intended_size_change =
    entry.Intent 3 8 (codes "r1") (codes "Size") (request.Update (codes "r1:5") (note_props (codes "size") (codes "18/1")))

abbrev pub changed_size : Entry
changed_size = entry.Outcome 3 8 (reply.Success (codes "r1:5") (note_attrs (codes "r1:5") 4 (codes "size") (codes "18/1"))) 0 0

abbrev pub turned : Entry
turned = entry.Phase 3 phase.Back (Some (cause.Export (codes "site-total")))

abbrev pub intended_home_restore : Entry
intended_home_restore =
    entry.Intent 3 9 (codes "f1") (codes "Home") (request.Update (codes "f1:3") (file_props (codes "home.txt") (codes "beta")))

abbrev pub restored_home : Entry
restored_home = entry.Outcome 3 9 (reply.Success (codes "f1:3") (file_attrs (codes "f1:3") 4 (codes "home.txt") (codes "beta"))) 0 0

abbrev pub intended_size_restore : Entry
intended_size_restore =
    entry.Intent 3 10 (codes "r1") (codes "Size") (request.Update (codes "r1:5") (note_props (codes "size") (codes "18/4")))

abbrev pub restored_size : Entry
restored_size = entry.Outcome 3 10 (reply.Success (codes "r1:5") (note_attrs (codes "r1:5") 4 (codes "size") (codes "18/4"))) 0 0

abbrev pub cleaning : Entry
cleaning = entry.Phase 3 phase.BackClean None

abbrev pub rolled_back : Entry
rolled_back = entry.Done 3 status.UpdateRollbackComplete []

abbrev pub run : List Entry
run =
    until_used ++ updating ∷ intended_home_change ∷ changed_home ∷ intended_size_change ∷ changed_size ∷ turned ∷ intended_home_restore
    ∷ restored_home ∷ intended_size_restore ∷ restored_size ∷ cleaning ∷ rolled_back ∷ []

-- each entry may follow where it stands
abbrev pub Legal : Type 0
Legal = IsLegal schemas empty_world run

-- what the report shows in the end: the parameters, the output and the export are those that it had
abbrev pub Shows : Type 0
Shows =
    report_of (codes "site") (fold_of empty_world run)
    ≡ record (bare status.UpdateRollbackComplete 1) {
      resources = record {
        path = codes "Audit";
        kind = file;
        physical = codes "f1:1";
        status = held.CreateComplete;
        unsure = false;
        props = (file_props (codes "audit.txt") (codes "on"));
      }
          ∷ record {
            path = codes "Conf";
            kind = file;
            physical = codes "f1:2";
            status = held.CreateComplete;
            unsure = false;
            props = (file_props (codes "site.conf") (codes "stage=prod\ndepth=8"));
          }
          ∷ record {
            path = codes "Home";
            kind = file;
            physical = codes "f1:3";
            status = held.UpdateComplete;
            unsure = false;
            props = (file_props (codes "home.txt") (codes "beta"));
          }
          ∷ record {
            path = codes "Main";
            kind = note;
            physical = codes "r1:4";
            status = held.CreateComplete;
            unsure = false;
            props = (note_props (codes "main") (codes "f1:2"));
          }
          ∷ record {
            path = codes "Size";
            kind = note;
            physical = codes "r1:5";
            status = held.UpdateComplete;
            unsure = false;
            props = (note_props (codes "size") (codes "18/4"));
          } ∷ [];
      given = (codes "Stage", codes "prod") ∷ [];
      outputs = record { name = codes "Total"; value = codes "18/4"; export = Some (codes "site-total") } ∷ [];
      exports = (codes "site-total", codes "18/4") ∷ [];
    }
