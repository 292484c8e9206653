use Rattle.std.proofs.Common.{◌≡◌, map, not, take}
use Rattle.std.specs.Prelude.{filter}
use Rattle.cf_desired.specs.Seeing.{is_output_made}
use Rattle.cf_desired.proofs.outputs.unmade.Given as goal

abbrev pub invariant-loop-output : goal.invariant-loop-output
invariant-loop-output l = l.names ≡ map (λ o. o.name) (filter (λ o. not (is_output_made l.conds o)) (take l.output-index l.output-items))
