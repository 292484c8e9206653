use Rattle.cf_effect.specs.Ahead.{AreKept}
use Rattle.cf_effect.specs.State.{state_of}
use Rattle.cf_effect.proofs.findings.find_all.Given as goal

abbrev pub invariant-loop-at : goal.invariant-loop-at
invariant-loop-at l = AreKept (state_of l.state) l.findings
