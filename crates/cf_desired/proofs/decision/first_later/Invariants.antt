use Rattle.std.proofs.Common.{◌≡◌, map, drop}
use Rattle.cf_eval.specs.Scope.{verdict_of}
use Rattle.cf_desired.specs.Shape.{first_later}
use Rattle.cf_desired.proofs.decision.first_later.Given as goal

abbrev pub invariant-loop-cond : goal.invariant-loop-cond
invariant-loop-cond l = first_later (map (λ c. (c.0, verdict_of c.1)) l.conds) ≡ first_later (map (λ c. (c.0, verdict_of c.1)) (drop l.cond-index l.cond-items))
