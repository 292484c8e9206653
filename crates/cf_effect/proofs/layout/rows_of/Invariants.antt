use Rattle.std.proofs.Common.{◌≡◌, map, take}
use Rattle.cf_effect.specs.Laying.{laid_row, row_told}
use Rattle.cf_effect.proofs.layout.rows_of.Given as goal

abbrev pub invariant-loop-told : goal.invariant-loop-told
invariant-loop-told l = map row_told l.rows.items ≡ map (laid_row l.places) (take l.told-index l.all)
