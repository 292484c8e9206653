use Rattle.std.proofs.Common.{◌∙◌, ap, not, sym}
use Rattle.cf_next.proofs.Removing.{waits_then}
use Rattle.cf_next.proofs.deletions.waits.Goals as goal

pub returns-else-is_repeat_in_flight : goal.returns-else-is_repeat_in_flight
returns-else-is_repeat_in_flight c =
    waits_then c.args.out.now c.args.stack.now.stack c.args.repeats.now c.args.stage c.requires c.is_empty.result c.is_empty.ensures
    (ap not (sym c.is_cleanup.ensures ∙ c.if-not-is_cleanup.true)) (sym c.is_repeat_in_flight.ensures ∙ c.if-is_repeat_in_flight.false)
