use Rattle.std.proofs.Common.{◌≡◌, ◌-◌, length, []}
use Rattle.cf_graph.specs.Needs.{ordered}
use Rattle.cf_graph.specs.UnderWay.{IsOrdering}
use Rattle.cf_graph.proofs.sequence.in_order.Given as goal

abbrev pub invariant-loop-entry : goal.invariant-loop-entry
invariant-loop-entry l = record {
  under_way : IsOrdering l.all l.progress;
  so_far : ordered (length l.all) l.all [] ≡ ordered (length l.all - l._entry-index) l.all l.progress.placed.entries;
}
