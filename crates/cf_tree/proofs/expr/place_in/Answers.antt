use Rattle.std.proofs.Common.{arith, sym}
use Rattle.cf_tree.proofs.Halves.{lower, raise, hit, ended}
use Rattle.cf_tree.specs.Form.{field_of}
use Rattle.cf_tree.proofs.expr.place_in.Goals as goal

pub loop-low-preserved-in-Less : goal.loop-low-preserved-in-Less
loop-low-preserved-in-Less c =
    lower field_of _ _ _ _ _ _ c.loop-low.invariant (omega arith) (omega arith) c.requires (sym c.in-Less.ensures)

pub returns-in-Equal : goal.returns-in-Equal
returns-in-Equal c =
    sym (hit field_of _ _ _ _ _ _ c.loop-low.invariant (omega arith) (omega arith) c.requires (sym c.in-Equal.ensures))

pub loop-low-preserved : goal.loop-low-preserved
loop-low-preserved c =
    raise field_of _ _ _ _ _ _ c.loop-low.invariant (omega arith) (omega arith) c.requires (sym c.in-Greater.ensures)

pub returns : goal.returns
returns c = sym (ended field_of _ _ _ _ c.loop-low.invariant c.loop-low-test.false)
