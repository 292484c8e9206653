use Rattle.std.proofs.Common.{ap, subst, sym, ◌∙◌}
use Rattle.cf_template.specs.Whole.{template_of}
use Rattle.cf_top.specs.Tasks.{PreparesWish}
use Rattle.cf_top.proofs.Ordered.{read_told}
use Rattle.cf_top.proofs.planning.check_template.Goals as goal

pub returns-in-Ok-wish_of : goal.returns-in-Ok-wish_of
returns-in-Ok-wish_of c =
    read_told c.args.schemas.now c.args.world.now.world c.args.stack.now c.args.choice.now c.args.bytes.items c.in-Ok.template (ap template_of (sym c.as_slice.ensures.value) ∙ c.in-Ok.ensures)
    (sym c.is_not_yet.ensures ∙ c.if-is_not_yet.false) c.args.purpose c.order_template.result
    (subst (λ w. PreparesWish c.args.schemas.now c.args.world.now.world w c.order_template.result) c.in-Ok-wish_of.ensures c.order_template.ensures)
