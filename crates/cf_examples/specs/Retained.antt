-- A stack is deleted: what needs the file goes first, and the file is kept by its policy (this project's own).
use Rattle.std.specs.Prelude.{◌≡◌, List, [], ◌∷◌, codes, ◌++◌}
use Rattle.cf_tree.specs.declared.request.Request.TheVariants as request
use Rattle.cf_tree.specs.declared.source.Source.{Source}
use Rattle.cf_entry.specs.declared.entry.Entry.{Entry}
use Rattle.cf_entry.specs.declared.entry.Entry.TheVariants as entry
use Rattle.cf_entry.specs.declared.entry.Begun.TheVariants as begin
use Rattle.cf_entry.specs.declared.entry.Reply.TheVariants as reply
use Rattle.cf_entry.specs.declared.status.Status.TheVariants as status
use Rattle.cf_entry.specs.declared.turn.Why.TheVariants as why
use Rattle.cf_effect.specs.World.{empty_world}
use Rattle.cf_effect.specs.Fold.{fold_of}
use Rattle.cf_plan.specs.Follow.{IsLegal}
use Rattle.cf_examples.specs.Given.{file, note, file_props, file_attrs, note_props, note_attrs, schemas, source_of, lane_pair, report_of, bare, IsRefusedAfter}

abbrev pub first : Source
first =
    source_of (codes "s") (codes "one")
    (codes "{\"Resources\":{\"A\":{\"Type\":\"Local::Files::File\",\"DeletionPolicy\":\"Retain\",\"Properties\":{"
    ++ codes "\"Path\":\"a\",\"Content\":\"x\"}},\"B\":{\"Type\":\"Local::Records::Record\",\"DependsOn\":\"A\","
    ++ codes "\"Properties\":{\"Key\":\"b\",\"Value\":\"u\"}}}}")

abbrev pub opened : Entry
opened = entry.Opened 1 (lane_pair (codes "f1") file ∷ lane_pair (codes "r1") note ∷ [])

abbrev pub begun : Entry
begun = entry.Begin 1 (codes "s") (begin.Create first)

abbrev pub intended_a : Entry
intended_a = entry.Intent 1 1 (codes "f1") (codes "A") (request.Create file (file_props (codes "a") (codes "x")))

abbrev pub made_a : Entry
made_a = entry.Outcome 1 1 (reply.Success (codes "f1:1") (file_attrs (codes "f1:1") 1 (codes "a") (codes "x"))) 0 0

abbrev pub intended_b : Entry
intended_b = entry.Intent 1 2 (codes "r1") (codes "B") (request.Create note (note_props (codes "b") (codes "u")))

abbrev pub made_b : Entry
made_b = entry.Outcome 1 2 (reply.Success (codes "r1:2") (note_attrs (codes "r1:2") 1 (codes "b") (codes "u"))) 0 0

abbrev pub created : Entry
created = entry.Done 1 status.CreateComplete []

abbrev pub deleting : Entry
deleting = entry.Begin 2 (codes "s") (begin.Delete [])

abbrev pub intended_deletion : Entry
intended_deletion = entry.Intent 2 3 (codes "r1") (codes "B") (request.Delete (codes "r1:2"))

abbrev pub deleted_b : Entry
deleted_b = entry.Outcome 2 3 (reply.Success (codes "r1:2") []) 0 0

abbrev pub kept : Entry
kept = entry.Kept 2 (codes "A") (codes "f1:1") why.Retained

abbrev pub deleted : Entry
deleted = entry.Done 2 status.DeleteComplete []

abbrev pub run : List Entry
run = opened ∷ begun ∷ intended_a ∷ made_a ∷ intended_b ∷ made_b ∷ created ∷ deleting ∷ intended_deletion ∷ deleted_b ∷ kept ∷ deleted ∷ []

-- each entry may follow where it stands
abbrev pub Legal : Type 0
Legal = IsLegal schemas empty_world run

-- what the report shows in the end
abbrev pub Shows : Type 0
Shows =
    report_of (codes "s") (fold_of empty_world run)
    ≡ record (bare status.DeleteComplete 1) {
      leftovers = record { path = (codes "A"); physical = (codes "f1:1"); why = why.Retained }
          ∷ [];
    }

-- What is needed may not leave the stack before what needs it.
abbrev pub KeptTooEarly : Type 0
KeptTooEarly =
    IsRefusedAfter (opened ∷ begun ∷ intended_a ∷ made_a ∷ intended_b ∷ made_b ∷ created ∷ deleting ∷ [])
    (entry.Kept 2 (codes "A") (codes "f1:1") why.Retained)
