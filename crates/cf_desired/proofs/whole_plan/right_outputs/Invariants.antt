use Rattle.std.proofs.Common.{◌≡◌, Some, map, take}
use Rattle.cf_desired.specs.Whole.{right_output}
use Rattle.cf_desired.proofs.whole_plan.right_outputs.Given as goal

abbrev pub invariant-loop-output : goal.invariant-loop-output
invariant-loop-output l = map right_output (take l.output-index l.outputs) ≡ map (λ r. Some r) l.rights
