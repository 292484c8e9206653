use Rattle.std.proofs.Common.{arith, sym, true}
use Rattle.cf_tree.proofs.Halves.{ended, hit, lower, raise}
use Rattle.cf_desired.proofs.shared.place_named.Goals as goal

pub loop-low-preserved-in-Less : goal.loop-low-preserved-in-Less
loop-low-preserved-in-Less c =
    lower (λ r. (r.name, true)) _ _ _ _ _ _ c.loop-low.invariant (omega arith) (omega arith) c.requires.ordered (sym c.in-Less.ensures)

pub returns-in-Equal : goal.returns-in-Equal
returns-in-Equal c =
    sym (hit (λ r. (r.name, true)) _ _ _ _ _ _ c.loop-low.invariant (omega arith) (omega arith) c.requires.ordered (sym c.in-Equal.ensures))

pub loop-low-preserved : goal.loop-low-preserved
loop-low-preserved c =
    raise (λ r. (r.name, true)) _ _ _ _ _ _ c.loop-low.invariant (omega arith) (omega arith) c.requires.ordered (sym c.in-Greater.ensures)

pub returns : goal.returns
returns c = sym (ended (λ r. (r.name, true)) _ _ _ _ c.loop-low.invariant c.loop-low-test.false)
