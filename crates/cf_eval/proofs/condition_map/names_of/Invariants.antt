use Rattle.std.proofs.Common.{◌≡◌, ◌++◌, map, drop}
use Rattle.cf_eval.proofs.condition_map.names_of.Given as goal

abbrev pub invariant-loop-resource : goal.invariant-loop-resource
invariant-loop-resource l = map (λ r. r.name) l.resources ≡ l.names ++ map (λ r. r.name) (drop l.resource-index l.resource-items)
