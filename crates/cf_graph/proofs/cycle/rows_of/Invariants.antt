use Rattle.std.proofs.Common.{take}
use Rattle.cf_graph.specs.Cycles.{StandAlike}
use Rattle.cf_graph.proofs.cycle.rows_of.Given as goal

abbrev pub invariant-loop-row : goal.invariant-loop-row
invariant-loop-row l = StandAlike l.rows.entries (take l.row-index l.all)
