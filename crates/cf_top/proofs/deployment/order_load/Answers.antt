use Rattle.std.proofs.Common.{Some, subst}
use Rattle.cf_load.specs.Text.{load_text}
use Rattle.cf_face.specs.Words.{load_choice}
use Rattle.cf_top.specs.Refusals.{TestsTemplate, chosen_refusal}
use Rattle.cf_top.specs.Tasks.{IsOrderOf, load_library}
use Rattle.cf_top.specs.declared.planning.Purpose.TheVariants.{Deploy}
use Rattle.cf_top.proofs.Deployed.{fetched, load_stands}
use Rattle.cf_top.proofs.deployment.order_load.Goals as goal

pub returns-in-Ok-load_text : goal.returns-in-Ok-load_text
returns-in-Ok-load_text c =
    fetched (load_library c.args.count) Deploy c.args.schemas.now c.args.world.now.world c.args.stack.now (load_choice c.args.count) (load_text c.args.count)
    c.check_template-ordered.result (load_stands c.args.count)
    (subst (λ choice. TestsTemplate (chosen_refusal Deploy c.args.schemas.now c.args.world.now.world c.args.stack.now choice (Some (load_text c.args.count)))
    (IsOrderOf Deploy c.args.schemas.now c.args.world.now.world c.args.stack.now choice (load_text c.args.count)) c.check_template-ordered.result) c.in-Ok.ensures
    (subst (λ text. TestsTemplate (chosen_refusal Deploy c.args.schemas.now c.args.world.now.world c.args.stack.now c.in-Ok.choice (Some text))
    (IsOrderOf Deploy c.args.schemas.now c.args.world.now.world c.args.stack.now c.in-Ok.choice text) c.check_template-ordered.result) c.in-Ok-load_text.ensures c.check_template-ordered.ensures))
