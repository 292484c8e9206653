use Rattle.std.proofs.Common.{◌≡◌, ◌++◌, drop, map}
use Rattle.cf_prepare.proofs.taken.names_among.Given as goal

abbrev pub invariant-loop-export : goal.invariant-loop-export
invariant-loop-export l = l.names ++ map (λ e. e.0) (drop l.export-index l.exports) ≡ map (λ e. e.0) l.exports
