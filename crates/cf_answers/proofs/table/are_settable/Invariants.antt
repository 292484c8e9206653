use Rattle.std.proofs.Common.{◌≡◌, drop}
use Rattle.std.specs.List.{list_all}
use Rattle.cf_tree.specs.Value.{pairs_of}
use Rattle.cf_answers.specs.Table.{is_settable}
use Rattle.cf_answers.proofs.table.are_settable.Given as goal

abbrev pub invariant-loop-pair : goal.invariant-loop-pair
invariant-loop-pair l = list_all (is_settable l.schema) (pairs_of l.pairs) ≡ list_all (is_settable l.schema) (pairs_of (drop l.pair-index l.pairs))
