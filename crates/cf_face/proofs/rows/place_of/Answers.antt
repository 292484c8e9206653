use Rattle.std.proofs.Common.{arith, sym}
use Rattle.cf_face.proofs.Rising.{lower, raise}
use Rattle.cf_face.proofs.rows.place_of.Goals as goal

pub loop-low-preserved-then-is_held_before : goal.loop-low-preserved-then-is_held_before
loop-low-preserved-then-is_held_before c =
    raise (λ r. r.now) _ _ _ _ _ c.index-rows-middle.result c.index-rows-middle.is c.loop-low.invariant (omega (arith, c.loop-low-test.true))
    (omega (arith, c.loop-low-test.true)) c.requires (sym c.if-is_held_before.ensures)

pub loop-low-preserved : goal.loop-low-preserved
loop-low-preserved c =
    lower (λ r. r.now) _ _ _ _ _ c.index-rows-middle.result c.index-rows-middle.is c.loop-low.invariant (omega (arith, c.loop-low-test.true))
    (omega (arith, c.loop-low-test.true)) c.requires (sym c.if-is_held_before.ensures)
