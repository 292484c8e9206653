use Rattle.std.proofs.Common.{◌≡◌, [], take, fold}
use Rattle.cf_next.specs.Facts.{with_open}
use Rattle.cf_next.proofs.facts.opened_at.Given as goal

abbrev pub invariant-loop-pending : goal.invariant-loop-pending
invariant-loop-pending l = l.paths ≡ fold with_open [] (take l.pending-index l.tokens)
