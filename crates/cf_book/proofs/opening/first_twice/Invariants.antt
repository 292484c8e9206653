use Rattle.std.proofs.Common.{◌≡◌, drop}
use Rattle.cf_book.specs.Opening.{twice}
use Rattle.cf_book.proofs.opening.first_twice.Given as goal

abbrev pub invariant-loop-at : goal.invariant-loop-at
invariant-loop-at l = twice l.lanes ≡ twice (drop l.at l.lanes)
