use Rattle.std.proofs.Common.{◌≡◌, ◌++◌, take, map}
use Rattle.cf_effect.specs.Begin.{creates_at, lost_create}
use Rattle.cf_effect.proofs.tokens.leave_over.Given as goal

abbrev pub invariant-loop-pending : goal.invariant-loop-pending
invariant-loop-pending l = l.leftovers.items ≡ l.fn.leftovers.items ++ map lost_create (creates_at (take l.pending-index l.tokens) l.path)
