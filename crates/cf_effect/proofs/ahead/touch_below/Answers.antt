use Rattle.std.proofs.Common.{arith}
use Rattle.cf_effect.proofs.Readied.{below_all, below_more}
use Rattle.cf_effect.proofs.ahead.touch_below.Goals as goal

pub loop-at-preserved : goal.loop-at-preserved
loop-at-preserved c =
    below_more c.args.way c.args.layout.now c.args.made.now c.args.found.now c.loop-at.at c.args.readiness.now c.loop-at.readiness c.touch_at.new.readiness c.loop-at.invariant c.touch_at.ensures

pub returns : goal.returns
returns c =
    below_all c.args.way c.args.layout.now c.args.made.now c.args.found.now c.loop-at.at c.args.count c.args.readiness.now c.loop-at.readiness (omega (arith, c.loop-at-test.false)) c.loop-at.invariant
