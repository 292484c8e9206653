use Rattle.cf_effect.proofs.Readied.{around_touched}
use Rattle.cf_effect.proofs.ahead.touch_around.Goals as goal

pub returns : goal.returns
returns c =
    around_touched c.args.way c.args.layout.now c.args.made.now c.args.found.now c.args.at c.waiting_for.result.now c.args.readiness.now c.touch_each.new.readiness
    c.touch_at.new.readiness c.waiting_for.ensures c.touch_each.ensures c.touch_at.ensures
