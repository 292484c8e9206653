use Rattle.std.proofs.Common.{◌≡◌, map, take}
use Rattle.cf_desired.proofs.exports.export_names.Given as goal

abbrev pub invariant-loop-export : goal.invariant-loop-export
invariant-loop-export l = l.names ≡ map (λ e. e.0) (take l.export-index l.export-items)
