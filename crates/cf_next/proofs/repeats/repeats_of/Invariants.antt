use Rattle.std.proofs.Common.{◌≡◌, take, filter}
use Rattle.cf_next.specs.Repeats.{can_repeat}
use Rattle.cf_next.proofs.repeats.repeats_of.Given as goal

abbrev pub invariant-loop-pending : goal.invariant-loop-pending
invariant-loop-pending l = l.repeats ≡ filter (can_repeat l.retained l.out l.stack.stack) (take l.pending-index l.tokens)
