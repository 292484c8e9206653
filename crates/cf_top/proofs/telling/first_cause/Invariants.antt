use Rattle.std.proofs.Common.{◌≡◌, drop}
use Rattle.cf_workers.proofs.Told.{first_own}
use Rattle.cf_top.proofs.telling.first_cause.Given as goal

abbrev pub invariant-loop-heard : goal.invariant-loop-heard
invariant-loop-heard l = first_own l.operation l.entries ≡ first_own l.operation (drop l.heard-index l.entries)
