use Rattle.std.proofs.Common.{subst}
use Rattle.cf_eval.specs.Conditions.{conditions_found, scope_within}
use Rattle.cf_eval.specs.Scope.{condition_scope}
use Rattle.cf_eval.specs.Gives.{Stops}
use Rattle.cf_eval.proofs.Refusing.{is_refused}
use Rattle.cf_eval.proofs.condition_map.conditions.Goals as goal

pub returns : goal.returns
returns c =
    let scope = condition_scope c.args.template.now.mappings c.args.bound.now c.args.pseudo.now in
    let stops = subst (λ n. Stops (conditions_found (scope n) c.args.template.now.conds) c.in-Err.stop) c.in-Ok.ensures c.in-Err.ensures in
    is_refused c.args.stack.now (conditions_found (scope_within c.args.template.now c.args.bound.now c.args.pseudo.now) c.args.template.now.conds) c.in-Err.stop c.fault_by.result stops c.fault_by.ensures
