use Rattle.std.proofs.Common.{◌≡◌, ◌++◌, take, flat_map}
use Rattle.cf_next.specs.Needed.{for_create}
use Rattle.cf_next.proofs.needed.add_for_creates.Given as goal

abbrev pub invariant-loop-pending : goal.invariant-loop-pending
invariant-loop-pending l = l.needed ≡ l.fn.needed ++ flat_map (for_create l.ids l.stack.stack) (take l.pending-index l.tokens)
