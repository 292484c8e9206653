use Rattle.std.proofs.Common.{subst, sym}
use Rattle.cf_prepare.specs.Prepare.{PreparesAs}
use Rattle.cf_prepare.specs.declared.wish.Wish.{Wish}
use Rattle.cf_prepare.proofs.Follows.{order_follows}
use Rattle.cf_prepare.proofs.preparing.prepare.Goals as goal

pub returns-in-Deploy-clause-exact : goal.returns-in-Deploy-clause-exact
returns-in-Deploy-clause-exact c =
    subst (λ (w : Wish). PreparesAs c.args.schemas.now c.args.world.now.world w c.deploy.result) (sym c.in-Deploy.is) c.deploy.ensures

pub returns-in-Deploy-clause-follows : goal.returns-in-Deploy-clause-follows
returns-in-Deploy-clause-follows c =
    order_follows c.args.schemas.now c.args.world.now.world c.args.wish.now c.deploy.result
    (subst (λ (w : Wish). PreparesAs c.args.schemas.now c.args.world.now.world w c.deploy.result) (sym c.in-Deploy.is) c.deploy.ensures)

pub returns-in-Review-clause-exact : goal.returns-in-Review-clause-exact
returns-in-Review-clause-exact c =
    subst (λ (w : Wish). PreparesAs c.args.schemas.now c.args.world.now.world w c.review.result) (sym c.in-Review.is) c.review.ensures

pub returns-in-Review-clause-follows : goal.returns-in-Review-clause-follows
returns-in-Review-clause-follows c =
    order_follows c.args.schemas.now c.args.world.now.world c.args.wish.now c.review.result
    (subst (λ (w : Wish). PreparesAs c.args.schemas.now c.args.world.now.world w c.review.result) (sym c.in-Review.is) c.review.ensures)

pub returns-in-Execute-clause-follows : goal.returns-in-Execute-clause-follows
returns-in-Execute-clause-follows c =
    order_follows c.args.schemas.now c.args.world.now.world c.args.wish.now c.execute.result
    (subst (λ (w : Wish). PreparesAs c.args.schemas.now c.args.world.now.world w c.execute.result) (sym c.in-Execute.is) c.execute.ensures)
