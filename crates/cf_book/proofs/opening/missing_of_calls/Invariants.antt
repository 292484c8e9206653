use Rattle.std.proofs.Common.{◌≡◌, drop}
use Rattle.std.specs.Prelude.{fold}
use Rattle.cf_book.specs.Opening.{or_missing_call}
use Rattle.cf_book.proofs.opening.missing_of_calls.Given as goal

abbrev pub invariant-loop-call : goal.invariant-loop-call
invariant-loop-call l = fold (or_missing_call l.lanes) l.initial.best l.calls ≡ fold (or_missing_call l.lanes) l.best (drop l.call-index l.calls)
