use Rattle.std.proofs.Common.{◌≡◌, Some, map, take}
use Rattle.cf_desired.specs.Whole.{right_export}
use Rattle.cf_desired.proofs.whole_plan.right_exports.Given as goal

abbrev pub invariant-loop-export : goal.invariant-loop-export
invariant-loop-export l = map right_export (take l.export-index l.exports) ≡ map (λ r. Some r) l.rights
