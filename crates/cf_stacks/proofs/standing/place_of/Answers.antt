use Rattle.std.proofs.Common.{arith, sym}
use Rattle.cf_tree.proofs.Halves.{entry_lower, entry_raise, entry_hit, entry_ended}
use Rattle.cf_stacks.proofs.standing.place_of.Goals as goal

pub loop-low-preserved-in-Less : goal.loop-low-preserved-in-Less
loop-low-preserved-in-Less c =
    entry_lower _ _ _ _ _ _ c.loop-low.invariant (omega arith) (omega arith) c.requires (sym c.in-Less.ensures)

pub returns-in-Equal : goal.returns-in-Equal
returns-in-Equal c =
    sym (entry_hit _ _ _ _ _ _ c.loop-low.invariant (omega arith) (omega arith) c.requires (sym c.in-Equal.ensures))

pub loop-low-preserved : goal.loop-low-preserved
loop-low-preserved c =
    entry_raise _ _ _ _ _ _ c.loop-low.invariant (omega arith) (omega arith) c.requires (sym c.in-Greater.ensures)

pub returns : goal.returns
returns c = sym (entry_ended _ _ _ _ c.loop-low.invariant c.loop-low-test.false)
