use Rattle.cf_effect.proofs.GivenBack.{AreAwaitedTo}
use Rattle.cf_effect.proofs.restoring.awaited_of.Given as goal

abbrev pub invariant-loop-rank : goal.invariant-loop-rank
invariant-loop-rank l = AreAwaitedTo l.rank l.paths l.changed l.returned l.flags
