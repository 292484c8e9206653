-- A creation is refused at its second resource, and the first one is deleted (this project's own).
use Rattle.std.specs.Prelude.{List, [], ◌∷◌, codes, Some, ◌++◌}
use Rattle.cf_tree.specs.declared.code.Code.TheVariants as code
use Rattle.cf_tree.specs.declared.request.Request.TheVariants as request
use Rattle.cf_tree.specs.declared.source.Source.{Source}
use Rattle.cf_entry.specs.declared.entry.Entry.{Entry}
use Rattle.cf_entry.specs.declared.entry.Entry.TheVariants as entry
use Rattle.cf_entry.specs.declared.entry.Begun.TheVariants as begin
use Rattle.cf_entry.specs.declared.entry.Reply.TheVariants as reply
use Rattle.cf_entry.specs.declared.status.Status.TheVariants as status
use Rattle.cf_entry.specs.declared.turn.Cause.TheVariants as cause
use Rattle.cf_entry.specs.declared.turn.Phase.TheVariants as phase
use Rattle.cf_entry.specs.declared.turn.Reason.TheVariants as reason
use Rattle.cf_examples.specs.Given.{file, note, file_props, file_attrs, note_props, source_of, lane_pair}

abbrev pub first : Source
first =
    source_of (codes "s") (codes "one")
    (codes "{\"Resources\":{\"A\":{\"Type\":\"Local::Files::File\",\"Properties\":{\"Path\":\"a\",\"Content\":\"x\"}},"
    ++ codes "\"B\":{\"Type\":\"Local::Records::Record\",\"DependsOn\":\"A\",\"Properties\":{\"Key\":\"b\",\"Value\":\"u\"}}}}")

abbrev pub opened : Entry
opened = entry.Opened 1 (lane_pair (codes "f1") file ∷ lane_pair (codes "r1") note ∷ [])

abbrev pub begun : Entry
begun = entry.Begin 1 (codes "s") (begin.Create first)

abbrev pub intended_a : Entry
intended_a = entry.Intent 1 1 (codes "f1") (codes "A") (request.Create file (file_props (codes "a") (codes "x")))

abbrev pub made_a : Entry
made_a = entry.Outcome 1 1 (reply.Success (codes "f1:1") (file_attrs (codes "f1:1") 1 (codes "a") (codes "x"))) 0 0

abbrev pub intended_b : Entry
intended_b = entry.Intent 1 2 (codes "r1") (codes "B") (request.Create note (note_props (codes "b") (codes "u")))

abbrev pub refused : Entry
refused = entry.Outcome 1 2 (reply.Failed code.ServiceLimitExceeded) 0 1

abbrev pub turned : Entry
turned = entry.Phase 1 phase.Back (Some (cause.Handler (codes "B") (reason.Code code.ServiceLimitExceeded)))

abbrev pub intended_deletion : Entry
intended_deletion = entry.Intent 1 3 (codes "f1") (codes "A") (request.Delete (codes "f1:1"))

abbrev pub deleted : Entry
deleted = entry.Outcome 1 3 (reply.Success (codes "f1:1") []) 0 0

abbrev pub rolled_back : Entry
rolled_back = entry.Done 1 status.RollbackComplete []

abbrev pub run : List Entry
run = opened ∷ begun ∷ intended_a ∷ made_a ∷ intended_b ∷ refused ∷ turned ∷ intended_deletion ∷ deleted ∷ rolled_back ∷ []
