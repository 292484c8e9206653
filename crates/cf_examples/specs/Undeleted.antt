-- An update leaves a file out, and its deletion is refused three times: it is left over, and the update is complete (this project's own).
use Rattle.std.specs.Prelude.{◌≡◌, List, [], ◌∷◌, codes, None, false, ◌++◌}
use Rattle.cf_tree.specs.declared.code.Code.TheVariants as code
use Rattle.cf_tree.specs.declared.request.Request.TheVariants as request
use Rattle.cf_tree.specs.declared.source.Source.{Source}
use Rattle.cf_entry.specs.declared.entry.Entry.{Entry}
use Rattle.cf_entry.specs.declared.entry.Entry.TheVariants as entry
use Rattle.cf_entry.specs.declared.entry.Begun.TheVariants as begin
use Rattle.cf_entry.specs.declared.entry.Reply.TheVariants as reply
use Rattle.cf_entry.specs.declared.status.Status.TheVariants as status
use Rattle.cf_entry.specs.declared.turn.Phase.TheVariants as phase
use Rattle.cf_entry.specs.declared.turn.Why.TheVariants as why
use Rattle.cf_effect.specs.declared.held.HeldStatus.TheVariants as held
use Rattle.cf_effect.specs.World.{empty_world}
use Rattle.cf_effect.specs.Fold.{fold_of}
use Rattle.cf_plan.specs.Follow.{IsLegal}
use Rattle.cf_examples.specs.Given.{file, file_props, file_attrs, schemas, source_of, lane_pair, report_of, bare, IsRefusedAfter}

abbrev pub first : Source
first =
    source_of (codes "s") (codes "one")
    (codes "{\"Resources\":{\"A\":{\"Type\":\"Local::Files::File\",\"Properties\":{\"Path\":\"a\",\"Content\":\"x\"}},"
    ++ codes "\"B\":{\"Type\":\"Local::Files::File\",\"Properties\":{\"Path\":\"b\",\"Content\":\"y\"}}}}")

abbrev pub second : Source
second =
    source_of (codes "s") (codes "two")
    (codes "{\"Resources\":{\"A\":{\"Type\":\"Local::Files::File\",\"Properties\":{\"Path\":\"a\",\"Content\":\"x\"}}}}")

abbrev pub opened : Entry
opened = entry.Opened 1 (lane_pair (codes "f1") file ∷ [])

abbrev pub begun : Entry
begun = entry.Begin 1 (codes "s") (begin.Create first)

abbrev pub intended_a : Entry
intended_a = entry.Intent 1 1 (codes "f1") (codes "A") (request.Create file (file_props (codes "a") (codes "x")))

abbrev pub made_a : Entry
made_a = entry.Outcome 1 1 (reply.Success (codes "f1:1") (file_attrs (codes "f1:1") 1 (codes "a") (codes "x"))) 0 0

abbrev pub intended_b : Entry
intended_b = entry.Intent 1 2 (codes "f1") (codes "B") (request.Create file (file_props (codes "b") (codes "y")))

abbrev pub made_b : Entry
made_b = entry.Outcome 1 2 (reply.Success (codes "f1:2") (file_attrs (codes "f1:2") 1 (codes "b") (codes "y"))) 0 0

abbrev pub created : Entry
created = entry.Done 1 status.CreateComplete []

abbrev pub updating : Entry
updating = entry.Begin 2 (codes "s") (begin.Update second)

abbrev pub cleaning : Entry
cleaning = entry.Phase 2 phase.Clean None

abbrev pub intended_once : Entry
intended_once = entry.Intent 2 3 (codes "f1") (codes "B") (request.Delete (codes "f1:2"))

abbrev pub refused_once : Entry
refused_once = entry.Outcome 2 3 (reply.Failed code.AccessDenied) 0 1

abbrev pub intended_twice : Entry
intended_twice = entry.Intent 2 4 (codes "f1") (codes "B") (request.Delete (codes "f1:2"))

abbrev pub refused_twice : Entry
refused_twice = entry.Outcome 2 4 (reply.Failed code.AccessDenied) 1 2

abbrev pub intended_thrice : Entry
intended_thrice = entry.Intent 2 5 (codes "f1") (codes "B") (request.Delete (codes "f1:2"))

abbrev pub refused_thrice : Entry
refused_thrice = entry.Outcome 2 5 (reply.Failed code.AccessDenied) 2 3

abbrev pub kept : Entry
kept = entry.Kept 2 (codes "B") (codes "f1:2") why.Failed

abbrev pub updated : Entry
updated = entry.Done 2 status.UpdateComplete []

abbrev pub run : List Entry
run =
    opened ∷ begun ∷ intended_a ∷ made_a ∷ intended_b ∷ made_b ∷ created ∷ updating ∷ cleaning ∷ intended_once ∷ refused_once
    ∷ intended_twice ∷ refused_twice ∷ intended_thrice ∷ refused_thrice ∷ kept ∷ updated ∷ []

-- each entry may follow where it stands
abbrev pub Legal : Type 0
Legal = IsLegal schemas empty_world run

-- what the report shows in the end
abbrev pub Shows : Type 0
Shows =
    report_of (codes "s") (fold_of empty_world run)
    ≡ record (bare status.UpdateComplete 1) {
      resources = record {
        path = (codes "A");
        kind = file;
        physical = (codes "f1:1");
        status = held.CreateComplete;
        unsure = false;
        props = (file_props (codes "a") (codes "x"));
      } ∷ [];
      leftovers = record { path = (codes "B"); physical = (codes "f1:2"); why = why.Failed } ∷ [];
    }

-- It is not left over before the third refusal.
abbrev pub KeptTooEarly : Type 0
KeptTooEarly =
    IsRefusedAfter (opened ∷ begun ∷ intended_a ∷ made_a ∷ intended_b ∷ made_b ∷ created ∷ updating ∷ cleaning ∷ intended_once
    ∷ refused_once ∷ intended_twice ∷ refused_twice ∷ []) (entry.Kept 2 (codes "B") (codes "f1:2") why.Failed)
