use Rattle.std.proofs.Common.{◌≡◌, ◌++◌, take, map, filter}
use Rattle.cf_effect.specs.Words.{is_create_at}
use Rattle.cf_effect.specs.Begin.{given_up}
use Rattle.cf_effect.proofs.tokens.abandon.Given as goal

abbrev pub invariant-loop-pending : goal.invariant-loop-pending
invariant-loop-pending l = l.abandoned.items ≡ l.fn.abandoned.items ++ map given_up (filter (is_create_at l.path) (take l.pending-index l.tokens))
