use Rattle.std.proofs.Common.{arith}
use Rattle.cf_effect.proofs.Readied.{touched_all, touched_more}
use Rattle.cf_effect.proofs.ahead.touch_each.Goals as goal

pub loop-at-preserved : goal.loop-at-preserved
loop-at-preserved c =
    touched_more c.args.way c.args.layout.now c.args.made.now c.args.found.now c.args.places.now c.loop-at.at-index c.args.readiness.now c.loop-at.readiness c.touch_at.new.readiness c.loop-at-test.true
    c.loop-at.invariant c.touch_at.ensures

pub returns : goal.returns
returns c =
    touched_all c.args.way c.args.layout.now c.args.made.now c.args.found.now c.args.places.now c.loop-at.at-index c.args.readiness.now c.loop-at.readiness (omega (arith, c.loop-at-test.false)) c.loop-at.invariant
