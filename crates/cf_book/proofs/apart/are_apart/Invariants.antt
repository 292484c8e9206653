use Rattle.std.proofs.Common.{◌≡◌, drop, map}
use Rattle.cf_stacks.specs.Standing.{stack_in}
use Rattle.cf_book.specs.Opening.{are_apart}
use Rattle.cf_book.proofs.apart.are_apart.Given as goal

abbrev pub invariant-loop-at : goal.invariant-loop-at
invariant-loop-at l = are_apart l.last (map stack_in l.stacks) ≡ are_apart l.last (map stack_in (drop l.at l.stacks))
