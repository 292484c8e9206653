use Rattle.std.proofs.Common.{ap, sym, ◌∙◌}
use Rattle.cf_effect.specs.Status.{goes_forward}
use Rattle.cf_plan.proofs.Members.{not_both}
use Rattle.cf_next.proofs.GoingForward.{going_forward}
use Rattle.cf_next.proofs.stage.overview_in.Goals as goal

pub returns-else-goes_forward : goal.returns-else-goes_forward
returns-else-goes_forward c = λ e.
    let now = c.args.stack.now.stack.status in
    not_both (goes_forward now) (going_forward now e) (sym (ap goes_forward c.status.ensures) ∙ (sym c.goes_forward.ensures ∙ c.if-goes_forward.false))
