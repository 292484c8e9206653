use Rattle.std.proofs.Common.{◌≡◌, ◌++◌, drop, map}
use Rattle.cf_prepare.proofs.paths.names_under.Given as goal

abbrev pub invariant-loop-pair : goal.invariant-loop-pair
invariant-loop-pair l = l.names ++ map (λ p. p.0) (drop l.pair-index l.pairs) ≡ map (λ p. p.0) l.pairs
