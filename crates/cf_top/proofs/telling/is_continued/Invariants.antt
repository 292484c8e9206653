use Rattle.std.proofs.Common.{◌≡◌, drop}
use Rattle.cf_workers.proofs.Told.{continued_own}
use Rattle.cf_top.proofs.telling.is_continued.Given as goal

abbrev pub invariant-loop-heard : goal.invariant-loop-heard
invariant-loop-heard l = continued_own l.operation l.entries ≡ continued_own l.operation (drop l.heard-index l.entries)
