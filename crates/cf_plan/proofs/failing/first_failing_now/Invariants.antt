use Rattle.std.proofs.Common.{◌≡◌, [], take, drop}
use Rattle.cf_plan.specs.Forward.{first_failing_behind}
use Rattle.cf_plan.proofs.failing.first_failing_now.Given as goal

abbrev pub invariant-loop-at : goal.invariant-loop-at
invariant-loop-at l =
    first_failing_behind l.schemas l.stack.stack (take l.at l.entries) (drop l.at l.entries) ≡ first_failing_behind l.schemas l.stack.stack [] l.entries
