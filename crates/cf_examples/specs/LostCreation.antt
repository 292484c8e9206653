-- A creation stays in doubt, in its rollback and in the deletion of its stack: a deletion that keeps its path lists it without an id
-- (this project's own).
use Rattle.std.specs.Prelude.{◌≡◌, List, [], ◌∷◌, codes, Some}
use Rattle.cf_tree.specs.declared.request.Request.TheVariants as request
use Rattle.cf_tree.specs.declared.source.Source.{Source}
use Rattle.cf_entry.specs.declared.entry.Entry.{Entry}
use Rattle.cf_entry.specs.declared.entry.Entry.TheVariants as entry
use Rattle.cf_entry.specs.declared.entry.Begun.TheVariants as begin
use Rattle.cf_entry.specs.declared.entry.Reply.TheVariants as reply
use Rattle.cf_entry.specs.declared.status.Status.TheVariants as status
use Rattle.cf_entry.specs.declared.turn.Cause.TheVariants as cause
use Rattle.cf_entry.specs.declared.turn.Phase.TheVariants as phase
use Rattle.cf_entry.specs.declared.turn.Reason.TheVariants as reason
use Rattle.cf_entry.specs.declared.turn.Why.TheVariants as why
use Rattle.cf_effect.specs.World.{empty_world}
use Rattle.cf_effect.specs.Fold.{fold_of}
use Rattle.cf_plan.specs.Follow.{IsLegal}
use Rattle.cf_examples.specs.Given.{file, file_props, schemas, source_of, lane_pair, report_of, bare}

abbrev pub first : Source
first =
    source_of (codes "s") (codes "one")
    (codes "{\"Resources\":{\"A\":{\"Type\":\"Local::Files::File\",\"Properties\":{\"Path\":\"a\",\"Content\":\"x\"}}}}")

abbrev pub opened : Entry
opened = entry.Opened 1 (lane_pair (codes "f1") file ∷ [])

abbrev pub begun : Entry
begun = entry.Begin 1 (codes "s") (begin.Create first)

abbrev pub intended : Entry
intended = entry.Intent 1 1 (codes "f1") (codes "A") (request.Create file (file_props (codes "a") (codes "x")))

abbrev pub broken_once : Entry
broken_once = entry.Outcome 1 1 reply.Doubt 0 1

abbrev pub broken_twice : Entry
broken_twice = entry.Outcome 1 1 reply.Doubt 1 2

abbrev pub broken_thrice : Entry
broken_thrice = entry.Outcome 1 1 reply.Doubt 2 3

abbrev pub turned : Entry
turned = entry.Phase 1 phase.Back (Some (cause.Handler (codes "A") reason.Fault))

abbrev pub broken_back_once : Entry
broken_back_once = entry.Outcome 1 1 reply.Doubt 3 4

abbrev pub broken_back_twice : Entry
broken_back_twice = entry.Outcome 1 1 reply.Doubt 4 5

abbrev pub broken_back_thrice : Entry
broken_back_thrice = entry.Outcome 1 1 reply.Doubt 5 6

abbrev pub failed : Entry
failed = entry.Done 1 status.RollbackFailed ((codes "A") ∷ [])

abbrev pub deleting : Entry
deleting = entry.Begin 2 (codes "s") (begin.Delete [])

abbrev pub broken_gone_once : Entry
broken_gone_once = entry.Outcome 2 1 reply.Doubt 6 7

abbrev pub broken_gone_twice : Entry
broken_gone_twice = entry.Outcome 2 1 reply.Doubt 7 8

abbrev pub broken_gone_thrice : Entry
broken_gone_thrice = entry.Outcome 2 1 reply.Doubt 8 9

abbrev pub undeleted : Entry
undeleted = entry.Done 2 status.DeleteFailed ((codes "A") ∷ [])

abbrev pub deleting_without : Entry
deleting_without = entry.Begin 3 (codes "s") (begin.Delete ((codes "A") ∷ []))

abbrev pub kept : Entry
kept = entry.Kept 3 (codes "A") (codes "") why.Retained

abbrev pub deleted : Entry
deleted = entry.Done 3 status.DeleteComplete []

abbrev pub run : List Entry
run =
    opened ∷ begun ∷ intended ∷ broken_once ∷ broken_twice ∷ broken_thrice ∷ turned ∷ broken_back_once ∷ broken_back_twice
    ∷ broken_back_thrice ∷ failed ∷ deleting ∷ broken_gone_once ∷ broken_gone_twice ∷ broken_gone_thrice ∷ undeleted ∷ deleting_without
    ∷ kept ∷ deleted ∷ []

-- each entry may follow where it stands
abbrev pub Legal : Type 0
Legal = IsLegal schemas empty_world run

-- what the report shows there
abbrev pub Fails : Type 0
Fails =
    report_of (codes "s")
    (fold_of empty_world (opened ∷ begun ∷ intended ∷ broken_once ∷ broken_twice ∷ broken_thrice ∷ turned ∷ broken_back_once
    ∷ broken_back_twice ∷ broken_back_thrice ∷ failed ∷ [])) ≡ record (bare status.RollbackFailed 1) { failed = codes "A" ∷ [] }

-- what the report shows in the end
abbrev pub Shows : Type 0
Shows =
    report_of (codes "s") (fold_of empty_world run)
    ≡ record (bare status.DeleteComplete 1) { leftovers = record { path = (codes "A"); physical = (codes "-"); why = why.Retained } ∷ [] }

-- the run up to where the deletion has failed
abbrev pub until_undeleted : List Entry
until_undeleted =
    opened ∷ begun ∷ intended ∷ broken_once ∷ broken_twice ∷ broken_thrice ∷ turned ∷ broken_back_once ∷ broken_back_twice
    ∷ broken_back_thrice ∷ failed ∷ deleting ∷ broken_gone_once ∷ broken_gone_twice ∷ broken_gone_thrice ∷ undeleted ∷ []
