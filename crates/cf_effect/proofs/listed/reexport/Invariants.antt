use Rattle.std.proofs.Common.{◌≡◌, fold, filter, map, take}
use Rattle.cf_tree.specs.Lists.{insert_by}
use Rattle.cf_effect.specs.Listed.{is_export_before, not_export_of, export_by}
use Rattle.cf_effect.proofs.listed.reexport.Given as goal

abbrev pub invariant-loop-name : goal.invariant-loop-name
invariant-loop-name l = l.exports ≡ fold (insert_by is_export_before) (filter (not_export_of l.stack) l.fn.exports) (map (export_by l.stack) (take l.name-index l.values))
