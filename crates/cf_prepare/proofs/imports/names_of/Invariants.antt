use Rattle.std.proofs.Common.{◌≡◌, ◌++◌, drop, map}
use Rattle.cf_prepare.proofs.imports.names_of.Given as goal

abbrev pub invariant-loop-import : goal.invariant-loop-import
invariant-loop-import l = l.names ++ map (λ i. i.0) (drop l.import-index l.imports) ≡ map (λ i. i.0) l.imports
