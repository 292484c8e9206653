use Rattle.std.proofs.Common.{sym, subst}
use Rattle.cf_effect.specs.Status.{Forward}
use Rattle.cf_plan.specs.Progress.{IsProgressOf}
use Rattle.cf_next.specs.Offer.{IsOffer}
use Rattle.cf_next.proofs.Advancing.{has_failed}
use Rattle.cf_next.proofs.forward.offer_forward.Goals as goal

pub returns-in-Failed : goal.returns-in-Failed
returns-in-Failed c =
    let w = subst (IsProgressOf c.args.schemas.now c.args.name.now c.args.world.now.world c.args.stack.now.stack) c.in-Failed.is c.in_ok-cause.ensures in
    subst (IsOffer c.args.schemas.now c.args.name.now c.args.world.now.world c.args.out.now c.args.stack.now.stack Forward) (sym c.failed_offer.ensures)
    (has_failed c.args.schemas.now c.args.name.now c.args.world.now.world c.args.out.now c.args.stack.now.stack c.requires.forward w.0 c.in-Failed.cause w.1)
