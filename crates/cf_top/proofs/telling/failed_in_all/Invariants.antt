use Rattle.std.proofs.Common.{◌≡◌, ◌++◌, drop}
use Rattle.cf_workers.proofs.Told.{failed_own}
use Rattle.cf_top.proofs.telling.failed_in_all.Given as goal

abbrev pub invariant-loop-heard : goal.invariant-loop-heard
invariant-loop-heard l = failed_own l.operation l.entries ≡ l.names ++ failed_own l.operation (drop l.heard-index l.entries)
