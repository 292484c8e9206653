use Rattle.std.proofs.Common.{◌≡◌, ◌++◌, map, filter, drop}
use Rattle.cf_graph.specs.Needs.{is_made}
use Rattle.cf_graph.proofs.needs.made_names.Given as goal

abbrev pub invariant-loop-resource : goal.invariant-loop-resource
invariant-loop-resource l = map (λ r. r.name) (filter (is_made l.conds) l.resources) ≡ l.names.items ++ map (λ r. r.name) (filter (is_made l.conds) (drop l.resource-index l.resource-items))
