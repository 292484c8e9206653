use Rattle.std.proofs.Common.{◌∙◌, ◌==◌, ◌&&◌, sym}
use Rattle.cf_effect.specs.declared.call.Call.{Call}
use Rattle.cf_effect.specs.Words.{deletes}
use Rattle.cf_effect.specs.Calls.{was_refused}
use Rattle.cf_plan.proofs.Told.{some_counted}
use Rattle.cf_plan.proofs.Owned.{numbered_any}
use Rattle.cf_plan.proofs.end.has_refusal.Goals as goal

pub returns : goal.returns
returns c =
    let s = c.args.stack.now.stack in
    c.has_refused_deletion.ensures
    ∙ numbered_any (λ (k : Call). deletes c.args.physical.now k.request && was_refused k) c.operation.result c.as_slice.result.now s c.operation.ensures
    (c.as_slice.ensures.value ∙ c.ledger.ensures)
    ∙ sym (some_counted (λ (k : Call). k.number == s.operation) (λ (k : Call). deletes c.args.physical.now k.request) was_refused s.ledger)
