use Rattle.std.proofs.Common.{◌≡◌, ◌++◌, drop}
use Rattle.cf_change.specs.Changes.{removed_rows}
use Rattle.cf_change.proofs.rows.add_removed.Given as goal

abbrev pub invariant-loop-one : goal.invariant-loop-one
invariant-loop-one l = l.fn.rows ++ removed_rows l.held l.seen ≡ l.rows ++ removed_rows (drop l.one-index l.held) l.seen
