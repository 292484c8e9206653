use Rattle.std.proofs.Common.{◌≡◌, drop}
use Rattle.cf_plan.specs.Forward.{first_refusing}
use Rattle.cf_plan.proofs.failing.first_refusing.Given as goal

abbrev pub invariant-loop-heard : goal.invariant-loop-heard
invariant-loop-heard l = first_refusing l.schemas l.stack.stack (drop l.heard-index l.entries) ≡ first_refusing l.schemas l.stack.stack l.entries
