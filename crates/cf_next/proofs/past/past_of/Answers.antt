use Rattle.std.proofs.Common.{◌∙◌, fold}
use Rattle.cf_next.specs.Restoring.{noting_call}
use Rattle.cf_next.proofs.Marked.{past_is}
use Rattle.cf_next.proofs.past.past_of.Goals as goal

pub returns : goal.returns
returns c =
    past_is c.args.stack.now.stack c.in_ok-skipped.skipped c.in_ok-called.called c.note_all.new.past
    (c.in_ok-note_all.ensures
    ∙ (λ i. fold (noting_call (c.operation.ensures i))
    (record { updated = c.new.ensures i; restored = c.new-2.ensures i; tried = c.new-3.ensures i; skipped = c.in_ok-skipped.skipped; called = c.in_ok-called.called })
    ((c.as_slice.ensures.value ∙ c.ledger.ensures) i)))
    c.in_ok-skipped.ensures c.in_ok-called.ensures
