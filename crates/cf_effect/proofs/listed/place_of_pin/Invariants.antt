use Rattle.std.proofs.Common.{◌≡◌}
use Rattle.cf_tree.specs.Lists.{insert_by}
use Rattle.cf_tree.proofs.Joins.{joined_behind}
use Rattle.cf_effect.specs.Listed.{is_before}
use Rattle.cf_effect.proofs.listed.place_of_pin.Given as goal

abbrev pub invariant-loop-at : goal.invariant-loop-at
invariant-loop-at l = insert_by is_before l.pins l.pin ≡ joined_behind is_before l.pin l.at l.pins
