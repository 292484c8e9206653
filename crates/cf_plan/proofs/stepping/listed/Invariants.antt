use Rattle.std.proofs.Common.{◌≡◌, take}
use Rattle.cf_plan.specs.Starts.{starts_in}
use Rattle.cf_plan.proofs.stepping.listed.Given as goal

abbrev pub invariant-loop-entry : goal.invariant-loop-entry
invariant-loop-entry l = l.list ≡ starts_in (take l.entry-index l.starts)
