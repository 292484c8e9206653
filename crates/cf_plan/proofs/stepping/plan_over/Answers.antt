use Rattle.std.proofs.Common.{◌∙◌, ap, sym}
use Rattle.std.specs.Option.{option_copied}
use Rattle.cf_effect.specs.State.{before_in, source_in}
use Rattle.cf_plan.proofs.PlanTerms.{planned_by}
use Rattle.cf_plan.proofs.stepping.plan_over.Goals as goal

pub returns-in-Some : goal.returns-in-Some
returns-in-Some c =
    let there = sym (ap (λ o. option_copied o) c.in-Some.is) in
    planned_by c.plan_by.result c.in-Some.outset.now c.shape.result.now c.source.result.now c.args.stack.now.stack.going c.args.stack.now.stack.before c.args.seen.now
    c.source.ensures c.shape.ensures (ap source_in there ∙ c.outset.ensures.source) (ap before_in there ∙ c.outset.ensures.before) c.plan_by.ensures
