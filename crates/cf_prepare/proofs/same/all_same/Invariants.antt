use Rattle.std.proofs.Common.{◌≡◌, drop}
use Rattle.std.specs.Cmp.Lexicographic.{pointwise}
use Rattle.cf_prepare.proofs.same.all_same.Given as goal

abbrev pub invariant-loop-at : goal.invariant-loop-at
invariant-loop-at g l = pointwise g.T.Compared.same l.these l.those ≡ pointwise g.T.Compared.same (drop l.at l.these) (drop l.at l.those)
