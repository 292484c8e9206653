use Rattle.std.proofs.Common.{◌≡◌, take}
use Rattle.std.specs.Prelude.{flat_map}
use Rattle.cf_desired.specs.Plan.{exported}
use Rattle.cf_desired.proofs.outputs.exports.Given as goal

abbrev pub invariant-loop-output : goal.invariant-loop-output
invariant-loop-output l = l.exports ≡ flat_map exported (take l.output-index l.outputs)
