use Rattle.cf_next.specs.Opens.{NoneOpen}
use Rattle.cf_next.proofs.opens.first_open.Given as goal

abbrev pub invariant-loop-rank : goal.invariant-loop-rank
invariant-loop-rank l = NoneOpen l.homes l.schemas l.stack.stack l.states l.done l.names l.rank
