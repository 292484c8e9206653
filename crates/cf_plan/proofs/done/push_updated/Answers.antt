use Rattle.std.proofs.Common.{◌∙◌, ◌++◌, List, map, ap}
use Rattle.std.proofs.lemmas.Result.{IfOk-weaker}
use Rattle.cf_effect.specs.declared.call.Call.{Call}
use Rattle.cf_plan.specs.Done.{is_good_update}
use Rattle.cf_plan.proofs.Owned.{own_filtered}
use Rattle.cf_plan.proofs.done.push_updated.Goals as goal

pub returns : goal.returns
returns c =
    IfOk-weaker c.push_calls.result _ _
    (λ u e.
    e ∙ ap (λ (ks : List Call). c.args.paths.now ++ map (λ k. k.path) ks)
    (own_filtered is_good_update c.operation.result c.as_slice.result.now c.args.stack.now.stack c.operation.ensures (c.as_slice.ensures.value ∙ c.ledger.ensures)))
    c.push_calls.ensures
