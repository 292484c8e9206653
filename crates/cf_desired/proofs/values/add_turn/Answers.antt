use Rattle.std.proofs.Common.{◌≡◌, ◌∙◌, IfOk, ap, sym, subst}
use Rattle.std.specs.Option.{option_copied}
use Rattle.cf_desired.specs.declared.wanted.Plan.{Plan}
use Rattle.cf_desired.specs.Kept.{member_in, offer_in, turn_in}
use Rattle.cf_desired.specs.Turns.{plan_after, with_resource}
use Rattle.cf_desired.specs.Valued.{member_props}
use Rattle.cf_desired.proofs.OnTop.{on_top}
use Rattle.cf_desired.proofs.values.add_turn.Goals as goal

pub returns-in-Some : goal.returns-in-Some
returns-in-Some c =
    let top = on_top c.args.frames.now c.in-Some.frame.now (sym c.last.ensures.value ∙ ap option_copied c.in-Some.is) in
    let member = member_in c.in-Resource.member in
    let same = (λ j. with_resource c.args.plan.now member (member_props (c.env_on.ensures.stack j) (c.env_on.ensures.scope j) member))
    ∙ sym (λ j. plan_after c.args.source.now (offer_in c.args.offered.now.given) c.args.offered.now.flaw (top j) c.args.plan.now (turn_in (c.in-Resource.is j))) in
    subst (λ (q : Plan). IfOk c.add_resource.result (λ _. c.add_resource.new.plan ≡ q)) same c.add_resource.ensures
