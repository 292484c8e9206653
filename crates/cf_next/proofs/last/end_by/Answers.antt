use Rattle.std.proofs.Common.{inl, sym, ◌∙◌, subst, Some}
use Rattle.cf_plan.proofs.Members.{not_both}
use Rattle.cf_next.specs.declared.step.Next.{Next}
use Rattle.cf_next.specs.Joining.{IsLastBy}
use Rattle.cf_next.proofs.Ended.{end_last, none_last}
use Rattle.cf_next.proofs.last.end_by.Goals as goal

pub returns-then-not-has_nothing : goal.returns-then-not-has_nothing
returns-then-not-has_nothing c =
    none_last c.args.world.now.world c.args.stack.now.stack c.args.open.now c.requires
    (inl (λ nothing. not_both c.has_nothing.result (c.has_nothing.ensures.1 nothing) c.if-not-has_nothing.true))

pub returns-in_ok-ending-in-Some : goal.returns-in_ok-ending-in-Some
returns-in_ok-ending-in-Some c =
    let (failed, is, are) = c.in_ok-ending-in-Some.ensures in
    subst (λ (n : Next). IsLastBy c.args.world.now.world c.args.stack.now.stack c.args.open.now (Some n)) (sym is)
    (end_last c.args.world.now.world c.args.stack.now.stack c.args.open.now c.requires (c.has_nothing.ensures.0 c.if-not-has_nothing.false)
    c.in-Some.status failed (sym c.end_of.ensures ∙ c.in-Some.is) are)
