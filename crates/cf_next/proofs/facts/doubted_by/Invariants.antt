use Rattle.std.proofs.Common.{◌≡◌, [], take, fold}
use Rattle.cf_next.specs.Facts.{with_doubted}
use Rattle.cf_next.proofs.facts.doubted_by.Given as goal

abbrev pub invariant-loop-pending : goal.invariant-loop-pending
invariant-loop-pending l = l.ids ≡ fold (with_doubted l.stack.stack) [] (take l.pending-index l.tokens)
