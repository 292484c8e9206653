use Rattle.std.proofs.Common.{arith, sym}
use Rattle.cf_tree.proofs.Halves.{entry_lower, entry_raise, entry_hit, entry_ended}
use Rattle.cf_next.proofs.lookups.place_near.Goals as goal

pub loop-low-preserved-in-Less : goal.loop-low-preserved-in-Less
loop-low-preserved-in-Less g c =
    entry_lower _ _ _ _ _ _ c.loop-low.invariant c.probe-middle.ensures.low c.probe-middle.ensures.high c.requires (sym c.in-Less.ensures)

pub returns-in-Equal : goal.returns-in-Equal
returns-in-Equal g c =
    sym (entry_hit _ _ _ _ _ _ c.loop-low.invariant c.probe-middle.ensures.low c.probe-middle.ensures.high c.requires (sym c.in-Equal.ensures))

pub loop-low-preserved : goal.loop-low-preserved
loop-low-preserved g c =
    entry_raise _ _ _ _ _ _ c.loop-low.invariant c.probe-middle.ensures.low c.probe-middle.ensures.high c.requires (sym c.in-Greater.ensures)

pub returns : goal.returns
returns g c = sym (entry_ended _ _ _ _ c.loop-low.invariant c.loop-low-test.false)
