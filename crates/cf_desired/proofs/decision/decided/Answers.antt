use Rattle.std.proofs.Common.{◌∙◌, sym}
use Rattle.std.proofs.lemmas.Result.{IfOk-weaker}
use Rattle.cf_desired.specs.Kept.{kept_stack_in}
use Rattle.cf_desired.proofs.Decisions.{undelayed}
use Rattle.cf_desired.proofs.decision.decided.Goals as goal

pub returns-in-None : goal.returns-in-None
returns-in-None c =
    IfOk-weaker c.ordered.result _ _ (λ d e. e ∙ sym (undelayed (kept_stack_in c.args.stack.now) c.args.conds (sym c.in_ok-name.ensures ∙ c.in-None.is))) c.ordered.ensures
