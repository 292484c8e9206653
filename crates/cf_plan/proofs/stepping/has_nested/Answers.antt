use Rattle.std.proofs.Common.{ap, sym, ◌∙◌}
use Rattle.std.specs.Option.{option_copied}
use Rattle.cf_effect.specs.State.{before_in, source_in}
use Rattle.cf_plan.proofs.NoneNested.{none_here, none_there}
use Rattle.cf_plan.proofs.stepping.has_nested.Goals as goal

pub returns-in-Some : goal.returns-in-Some
returns-in-Some c =
    let there = sym (ap (λ o. option_copied o) c.in-Some.is) in
    none_here c.args.stack.now.stack c.in-Some.outset.now c.shape.result.now c.has_nested.result c.shape.ensures
    (ap source_in there ∙ c.outset.ensures.source) (ap before_in there ∙ c.outset.ensures.before) c.has_nested.ensures

pub returns-in-None : goal.returns-in-None
returns-in-None c e = none_there c.args.stack.now.stack (sym (ap (λ o. source_in (option_copied o)) c.in-None.is) ∙ c.outset.ensures.source)
