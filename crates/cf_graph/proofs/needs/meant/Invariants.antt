use Rattle.std.proofs.Common.{◌≡◌, ◌++◌, filter_map, drop}
use Rattle.std.specs.BTreeSet.{contains}
use Rattle.std.specs.Ordering.{nat_cmp}
use Rattle.std.specs.Cmp.Lexicographic.{slice_cmp}
use Rattle.cf_graph.specs.Mentioned.{mentioned, meant_by}
use Rattle.cf_graph.proofs.needs.meant.Given as goal

abbrev pub invariant-loop-mention : goal.invariant-loop-mention
invariant-loop-mention l =
    filter_map (meant_by (contains (slice_cmp nat_cmp) l.params)) (mentioned l.mentions) ≡ l.names.items ++ filter_map (meant_by (contains (slice_cmp nat_cmp) l.params)) (mentioned (drop l.mention-index l.mentions))
