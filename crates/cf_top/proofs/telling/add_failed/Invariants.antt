use Rattle.std.proofs.Common.{◌≡◌, ◌++◌, drop}
use Rattle.cf_top.proofs.telling.add_failed.Given as goal

abbrev pub invariant-loop-name : goal.invariant-loop-name
invariant-loop-name l = l.fn.names ++ l.failed ≡ l.names ++ drop l.name-index l.failed
