use Rattle.std.proofs.Common.{◌≡◌, take}
use Rattle.std.specs.Option.{option_copied}
use Rattle.cf_next.specs.First.{first_repeat}
use Rattle.cf_next.proofs.first.first_repeat.Given as goal

abbrev pub invariant-loop-pending : goal.invariant-loop-pending
invariant-loop-pending l = option_copied l.first ≡ first_repeat l.out l.world.world (take l.pending-index l.repeats)
