use Rattle.std.proofs.Common.{◌≡◌}
use Rattle.cf_effect.specs.Operation.{is_phase, before_first}
use Rattle.cf_plan.proofs.Parting.{first_behind}
use Rattle.cf_plan.proofs.calls.forward_of.Given as goal

abbrev pub invariant-loop-at : goal.invariant-loop-at
invariant-loop-at l = before_first is_phase l.entries ≡ first_behind is_phase l.at l.entries
