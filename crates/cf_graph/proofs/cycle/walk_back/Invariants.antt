use Rattle.std.proofs.Common.{◌≡◌, ◌<◌, ◌++◌, ℕ, suc, List, Some, true, length}
use Rattle.cf_tree.specs.Lists.{first_in}
use Rattle.cf_graph.specs.Needs.{walks}
use Rattle.cf_graph.specs.Cycles.{leads_back}
use Rattle.cf_graph.proofs.cycle.walk_back.Given as goal

abbrev pub decreases-loop-at : goal.decreases-loop-at
decreases-loop-at l = l.at

abbrev pub invariant-loop-at : goal.invariant-loop-at
invariant-loop-at l =
    (l.at < length l.levels) × (leads_back l.all l.start (suc l.at) l.current ≡ true)
    × ((rest : List (List ℕ)) → first_in (walks l.all l.start (suc l.at) l.current) ≡ Some rest → first_in (walks l.all l.start (length l.levels) l.start) ≡ Some (l.walk ++ rest))
