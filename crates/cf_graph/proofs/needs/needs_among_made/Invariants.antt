use Rattle.std.proofs.Common.{◌≡◌, ◌++◌, map, filter, drop}
use Rattle.std.specs.BTreeSet.{contains}
use Rattle.std.specs.Ordering.{nat_cmp}
use Rattle.std.specs.Cmp.Lexicographic.{slice_cmp}
use Rattle.cf_graph.specs.Needs.{is_made}
use Rattle.cf_graph.specs.Mentioned.{needs_mentioned}
use Rattle.cf_graph.proofs.needs.needs_among_made.Given as goal

abbrev pub invariant-loop-resource : goal.invariant-loop-resource
invariant-loop-resource l =
    map (λ r. (r.name, needs_mentioned (contains (slice_cmp nat_cmp) l.params) l.made l.conds r)) (filter (is_made l.conds) l.template.resources)
    ≡ l.all.items ++ map (λ r. (r.name, needs_mentioned (contains (slice_cmp nat_cmp) l.params) l.made l.conds r)) (filter (is_made l.conds) (drop l.resource-index l.resource-items))
