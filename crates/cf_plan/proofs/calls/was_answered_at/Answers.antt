use Rattle.std.proofs.Common.{◌&&◌, ◌∙◌}
use Rattle.std.specs.Prelude.{is_some}
use Rattle.std.specs.Str.{bytes_eq}
use Rattle.cf_effect.specs.Words.{is_update}
use Rattle.cf_effect.specs.declared.call.Call.{Call}
use Rattle.cf_plan.proofs.Owned.{own_any}
use Rattle.cf_plan.proofs.calls.was_answered_at.Goals as goal

pub returns : goal.returns
returns c =
    c.has_answered.ensures
    ∙ own_any (λ (k : Call). bytes_eq c.args.path.now k.path && (is_update k.request && is_some k.answer)) c.operation.result c.as_slice.result.now
    c.args.stack.now.stack c.operation.ensures (c.as_slice.ensures.value ∙ c.ledger.ensures)
