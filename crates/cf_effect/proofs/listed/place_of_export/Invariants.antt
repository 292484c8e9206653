use Rattle.std.proofs.Common.{◌≡◌}
use Rattle.cf_tree.specs.Lists.{insert_by}
use Rattle.cf_tree.proofs.Joins.{joined_behind}
use Rattle.cf_effect.specs.Listed.{is_export_before}
use Rattle.cf_effect.proofs.listed.place_of_export.Given as goal

abbrev pub invariant-loop-at : goal.invariant-loop-at
invariant-loop-at l = insert_by is_export_before l.exports l.export ≡ joined_behind is_export_before l.export l.at l.exports
