use Rattle.std.proofs.Common.{subst}
use Rattle.cf_tree.specs.declared.template.Template.{Template}
use Rattle.cf_eval.specs.Env.{Decides}
use Rattle.cf_eval.specs.Conditions.{conditions_of}
use Rattle.cf_desired.proofs.decision.conditions_on.Goals as goal

pub returns : goal.returns
returns c =
    subst (λ (t : Template). Decides c.args.stack.now.path (conditions_of t c.args.bound.now c.args.pseudo.now) c.conditions.result) c.deref.ensures c.conditions.ensures
