use Rattle.std.proofs.Common.{◌≡◌, drop}
use Rattle.std.specs.Prelude.{fold}
use Rattle.cf_book.specs.Opening.{or_missing_held}
use Rattle.cf_book.proofs.opening.missing_of_helds.Given as goal

abbrev pub invariant-loop-held : goal.invariant-loop-held
invariant-loop-held l = fold (or_missing_held l.lanes) l.initial.best l.helds ≡ fold (or_missing_held l.lanes) l.best (drop l.held-index l.helds)
