use Rattle.std.proofs.Common.{◌≡◌, None, length}
use Rattle.cf_graph.specs.Needs.{shortest_walk}
use Rattle.cf_graph.specs.Cycles.{AreLevels}
use Rattle.cf_graph.proofs.cycle.shortest.Given as goal

abbrev pub invariant-loop-row : goal.invariant-loop-row
invariant-loop-row l =
    AreLevels l.all l.start 1 l.levels.items × (length l.levels.items ≡ l._row-index) × (shortest_walk l.all l.start l._row-index ≡ None)
