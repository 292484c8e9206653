use Rattle.std.proofs.Common.{◌≡◌, ◌++◌, map}
use Rattle.std.specs.Vec.Iter.{into_iter_items}
use Rattle.cf_desired.proofs.members.names_in.Given as goal

abbrev pub invariant-loop-name : goal.invariant-loop-name
invariant-loop-name l = map (λ p. p.0) l.fn.paths ≡ l.names ++ map (λ p. p.0) (into_iter_items l.name-iterator)
