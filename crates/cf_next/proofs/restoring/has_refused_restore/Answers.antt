use Rattle.std.proofs.Common.{◌∙◌, ◌==◌, ◌&&◌}
use Rattle.std.specs.List.{list_any}
use Rattle.cf_effect.specs.declared.call.Call.{Call}
use Rattle.cf_effect.specs.Calls.{was_refused}
use Rattle.cf_effect.specs.Status.{goes_back}
use Rattle.cf_effect.specs.Words.{is_update}
use Rattle.cf_next.proofs.Restored.{refused_parts}
use Rattle.cf_next.proofs.restoring.has_refused_restore.Goals as goal

pub returns : goal.returns
returns c =
    c.has_refused.ensures
    ∙ (λ i. list_any (λ (k : Call). k.number == c.operation.ensures i && (goes_back k.status && (is_update k.request && was_refused k)))
    ((c.as_slice.ensures.value ∙ c.ledger.ensures) i))
    ∙ refused_parts c.args.stack.now.stack
