use Rattle.std.proofs.Common.{◌-◌, length}
use Rattle.cf_next.specs.Restores.{NoneAwaited}
use Rattle.cf_next.proofs.restores.first_restore.Given as goal

abbrev pub invariant-ranks : goal.invariant-ranks
invariant-ranks l = NoneAwaited l.homes l.stack.stack l.restoring l.from

abbrev pub decreases-ranks : goal.decreases-ranks
decreases-ranks l = length l.restoring.awaited - l.from
