use Rattle.std.proofs.Common.{◌≡◌, ◌++◌, take, flat_map}
use Rattle.cf_next.specs.Facts.{creates_given_up}
use Rattle.cf_next.proofs.removals.add_all_given_up.Given as goal

abbrev pub invariant-loop-pending : goal.invariant-loop-pending
invariant-loop-pending l = l.keepings ≡ l.fn.keepings ++ flat_map (creates_given_up l.retained) (take l.pending-index l.tokens)
