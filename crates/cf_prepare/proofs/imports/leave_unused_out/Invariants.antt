use Rattle.std.proofs.Common.{length}
use Rattle.cf_prepare.specs.Leaving.{KeepsPlan}
use Rattle.cf_prepare.proofs.imports.leave_unused_out.Given as goal

abbrev pub invariant-rounds : goal.invariant-rounds
invariant-rounds l = KeepsPlan l.seen l.wanted l.fn.source l.source

abbrev pub decreases-rounds : goal.decreases-rounds
decreases-rounds l = length l.source.imports
