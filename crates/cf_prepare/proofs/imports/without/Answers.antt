use Rattle.cf_prepare.proofs.Leaving.{left_in_order}
use Rattle.cf_prepare.proofs.imports.without.Goals as goal

pub from_vec-requires : goal.from_vec-requires
from_vec-requires c =
    left_in_order c.args.name.now c.args.imports.now c.as_slice-import-items.result.now c.loop-import.left.items c.loop-import.import-index
    (rw (← c.as_slice-import-items.ensures.value) c.as_slice-import-items.ensures.in_order) c.as_slice-import-items.ensures.value c.loop-import.invariant c.loop-import-test.false
