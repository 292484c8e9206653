use Rattle.std.proofs.Common.{◌≡◌, fold, take}
use Rattle.cf_next.specs.Joining.{with_repeat}
use Rattle.cf_next.proofs.dues.add_repeats.Given as goal

abbrev pub invariant-loop-pending : goal.invariant-loop-pending
invariant-loop-pending l = l.dues ≡ fold with_repeat l.fn.dues (take l.pending-index l.repeats)
