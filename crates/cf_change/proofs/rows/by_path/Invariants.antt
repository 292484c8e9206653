use Rattle.std.proofs.Common.{◌≡◌, [], fold}
use Rattle.std.specs.Vec.Iter.{into_iter_items}
use Rattle.cf_tree.specs.Lists.{insert_by}
use Rattle.cf_change.specs.Changes.{is_row_before}
use Rattle.cf_change.specs.Rising.{Rises}
use Rattle.cf_change.proofs.rows.by_path.Given as goal

abbrev pub invariant-loop-row : goal.invariant-loop-row
invariant-loop-row l =
    (fold (insert_by is_row_before) [] l.fn.rows ≡ fold (insert_by is_row_before) l.sorted (into_iter_items l.row-iterator))
    × Rises is_row_before l.sorted
