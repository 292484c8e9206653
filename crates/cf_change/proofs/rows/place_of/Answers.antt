use Rattle.std.proofs.Common.{arith, sym}
use Rattle.cf_change.proofs.Joining.{lower, raise}
use Rattle.cf_change.proofs.rows.place_of.Goals as goal

pub loop-low-preserved-then-lt : goal.loop-low-preserved-then-lt
loop-low-preserved-then-lt c =
    raise _ _ _ _ _ c.index-rows-middle.result c.loop-low.invariant (omega (arith, c.loop-low-test.true)) (omega (arith, c.loop-low-test.true))
    c.requires.rises (sym c.if-lt.ensures)

pub loop-low-preserved : goal.loop-low-preserved
loop-low-preserved c =
    lower _ _ _ _ _ c.index-rows-middle.result c.loop-low.invariant (omega (arith, c.loop-low-test.true)) (omega (arith, c.loop-low-test.true))
    c.requires.rises (sym c.if-lt.ensures)
