use Rattle.std.proofs.Common.{◌≡◌, drop}
use Rattle.cf_param.specs.Offered.{names_distinct}
use Rattle.cf_param.proofs.offered.are_distinct.Given as goal

abbrev pub invariant-loop-at : goal.invariant-loop-at
invariant-loop-at l = names_distinct l.pairs ≡ names_distinct (drop l.at l.pairs)
