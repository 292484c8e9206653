use Rattle.std.proofs.Common.{◌≡◌, ◌++◌, take}
use Rattle.std.specs.Prelude.{flat_map}
use Rattle.cf_desired.specs.Plan.{output_flaws}
use Rattle.cf_desired.proofs.values.add_output_flaws.Given as goal

abbrev pub invariant-loop-output : goal.invariant-loop-output
invariant-loop-output l = l.flaws ≡ l.fn.flaws ++ flat_map output_flaws (take l.output-index l.outputs)
