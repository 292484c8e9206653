use Rattle.std.proofs.Common.{◌≡◌, drop}
use Rattle.cf_eval.specs.Gives.{late_binding}
use Rattle.cf_eval.proofs.collect.late_binding.Given as goal

abbrev pub invariant-loop-binding : goal.invariant-loop-binding
invariant-loop-binding l = late_binding l.bound ≡ late_binding (drop l.binding-index l.bound)
