use Rattle.std.proofs.Common.{◌≡◌, filter_map, drop, length}
use Rattle.cf_tree.specs.Lists.{first_in}
use Rattle.cf_graph.specs.Needs.{cycle_of, shortest_walk}
use Rattle.cf_graph.proofs.cycle.cycle_of.Given as goal

abbrev pub invariant-loop-row : goal.invariant-loop-row
invariant-loop-row l = cycle_of l.all ≡ first_in (filter_map (λ r. shortest_walk l.all r.0 (length l.all)) (drop l.row-index l.all))
