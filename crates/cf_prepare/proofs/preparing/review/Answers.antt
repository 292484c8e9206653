use Rattle.cf_prepare.proofs.Working.{review_err, review_ok}
use Rattle.cf_prepare.proofs.preparing.review.Goals as goal

pub returns-in-Err : goal.returns-in-Err
returns-in-Err c =
    review_err c.args.schemas.now c.args.world.now.world c.args.name.now c.args.source.now c.in_ok-kinds.kinds c.in-Err.fault c.in_ok-test_deploys.ensures.0 c.in_ok-kinds.ensures c.in-Err.ensures

pub returns-in-Ok : goal.returns-in-Ok
returns-in-Ok c =
    review_ok c.args.schemas.now c.args.world.now.world c.args.name.now c.args.source.now c.in_ok-kinds.kinds c.in-Ok.worked c.review_worked.result c.in_ok-test_deploys.ensures.0 c.in_ok-kinds.ensures
    c.in-Ok.ensures c.review_worked.ensures
