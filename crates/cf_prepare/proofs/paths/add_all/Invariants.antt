use Rattle.std.proofs.Common.{◌≡◌, ◌++◌, drop}
use Rattle.cf_prepare.proofs.paths.add_all.Given as goal

abbrev pub invariant-loop-name : goal.invariant-loop-name
invariant-loop-name l = l.names ++ drop l.name-index l.name-items ≡ l.fn.names ++ l.more
