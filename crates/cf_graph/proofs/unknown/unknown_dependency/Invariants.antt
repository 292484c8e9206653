use Rattle.std.proofs.Common.{◌≡◌, flat_map, drop}
use Rattle.cf_tree.specs.Lists.{first_in}
use Rattle.cf_graph.specs.Needs.{unknown_of}
use Rattle.cf_graph.proofs.unknown.unknown_dependency.Given as goal

abbrev pub invariant-loop-resource : goal.invariant-loop-resource
invariant-loop-resource l = first_in (flat_map (unknown_of l.template) l.template.resources) ≡ first_in (flat_map (unknown_of l.template) (drop l.resource-index l.resource-items))
