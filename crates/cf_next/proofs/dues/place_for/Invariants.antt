use Rattle.std.proofs.Common.{◌≡◌}
use Rattle.cf_tree.specs.Lists.{insert_by}
use Rattle.cf_tree.proofs.Joins.{joined_behind}
use Rattle.cf_next.specs.Joining.{stays}
use Rattle.cf_next.proofs.dues.place_for.Given as goal

abbrev pub invariant-loop-at : goal.invariant-loop-at
invariant-loop-at l = insert_by stays l.dues l.due ≡ joined_behind stays l.due l.at l.dues
