use Rattle.std.proofs.Common.{◌≡◌, drop, map}
use Rattle.std.specs.Prelude.{fold}
use Rattle.cf_stacks.specs.Standing.{stack_in}
use Rattle.cf_book.specs.Opening.{missing, missing_in}
use Rattle.cf_book.proofs.opening.first_missing.Given as goal

abbrev pub invariant-loop-stack : goal.invariant-loop-stack
invariant-loop-stack l = missing l.lanes l.world.world ≡ fold (λ best s. missing_in l.lanes best s.1) l.best (map stack_in (drop l.stack-index l.stacks))
