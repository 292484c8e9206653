use Rattle.std.proofs.Common.{ap, refl, subst, sym, ◌∙◌}
use Rattle.std.specs.Prelude.{option_map}
use Rattle.cf_top.specs.Refusals.{RefusesChoice, exit_of_fault}
use Rattle.cf_top.specs.declared.planning.Purpose.TheVariants as purpose
use Rattle.cf_top.proofs.Meeting.{used}
use Rattle.cf_top.proofs.Reviewed.{keeps_ordered, reviews_by}
use Rattle.cf_top.proofs.reviewing.order_review.Goals as goal

pub returns-in-Some-clause-finds : goal.returns-in-Some-clause-finds
returns-in-Some-clause-finds g c =
    subst (λ o. RefusesChoice (used g.L.Library c.args.library.now c.args.library.now) purpose.Review c.args.schemas.now c.args.world.now.world c.args.stack.now c.args.choice.now o c.refused.result)
    (ap (option_map exit_of_fault) c.in-Some.ensures) (c.refused.ensures, (refl, refl))

pub set_in_order-requires : goal.set_in_order-requires
set_in_order-requires g c =
    keeps_ordered (used g.L.Library c.args.library.now c.order_choice.new.library) c.args.schemas.now c.args.world.now.world c.args.stack.now c.args.choice.now c.in-Ok.ordered c.in-Ok.ensures.finds

pub returns-in-Ok-clause-finds : goal.returns-in-Ok-clause-finds
returns-in-Ok-clause-finds g c =
    reviews_by (used g.L.Library c.args.library.now c.order_choice.new.library) c.args.schemas.now c.args.world.now.world c.args.stack.now c.args.choice.now c.in-Ok.ordered c.set_in_order.result
    (ap (option_map exit_of_fault) (sym c.in-None.ensures)) c.set_in_order.ensures c.in-Ok.ensures.finds

pub returns-in-Err-clause-finds : goal.returns-in-Err-clause-finds
returns-in-Err-clause-finds g c =
    subst (λ o. RefusesChoice (used g.L.Library c.args.library.now c.order_choice.new.library) purpose.Review c.args.schemas.now c.args.world.now.world c.args.stack.now c.args.choice.now o c.in-Err.exit)
    (ap (option_map exit_of_fault) c.in-None.ensures) c.in-Err.ensures.finds
