use Rattle.std.proofs.Common.{◌&&◌, ◌∙◌}
use Rattle.cf_effect.specs.declared.call.Call.{Call}
use Rattle.cf_effect.specs.Words.{updates}
use Rattle.cf_plan.specs.Follow.{is_not_updatable}
use Rattle.cf_plan.proofs.Owned.{own_any}
use Rattle.cf_plan.proofs.calls.was_not_updatable.Goals as goal

pub returns : goal.returns
returns c =
    c.has_refused.ensures
    ∙ own_any (λ (k : Call). updates c.args.held.now.physical k.request && is_not_updatable k.answer) c.operation.result c.as_slice.result.now
    c.args.stack.now.stack c.operation.ensures (c.as_slice.ensures.value ∙ c.ledger.ensures)
