use Rattle.std.proofs.Common.{◌-◌, length}
use Rattle.cf_next.specs.Rollback.{NoneBefore}
use Rattle.cf_next.proofs.rollback.first_deletion.Given as goal

abbrev pub invariant-ranks : goal.invariant-ranks
invariant-ranks l = NoneBefore l.homes l.stack.stack l.undoing l.from

abbrev pub decreases-ranks : goal.decreases-ranks
decreases-ranks l = length l.undoing.readiness.ready - l.from
