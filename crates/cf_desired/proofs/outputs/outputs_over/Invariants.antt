use Rattle.std.proofs.Common.{◌≡◌, map, take}
use Rattle.std.specs.Prelude.{filter}
use Rattle.cf_eval.specs.Env.{scope_in}
use Rattle.cf_desired.specs.Met.{output_at}
use Rattle.cf_desired.specs.Seeing.{is_output_made}
use Rattle.cf_desired.proofs.outputs.outputs_over.Given as goal

abbrev pub invariant-loop-output : goal.invariant-loop-output
invariant-loop-output l = l.outputs ≡ map (output_at l.env.stack.now l.conds (scope_in l.env)) (filter (is_output_made l.conds) (take l.output-index l.output-items))
