use Rattle.std.proofs.Common.{◌≡◌, ◌++◌, drop}
use Rattle.cf_prepare.specs.Refusals.{twice_in}
use Rattle.cf_prepare.proofs.taken.add_twice.Given as goal

abbrev pub invariant-loop-at : goal.invariant-loop-at
invariant-loop-at l = l.taken ++ twice_in (drop l.at l.names) ≡ l.fn.taken ++ twice_in l.names
