use Rattle.std.proofs.Common.{◌-◌, ◌^◌, length}
use Rattle.cf_workers.proofs.Runs.{IsRun}
use Rattle.cf_workers.proofs.drive.drive.Given as goal

-- the run so far
abbrev pub invariant-rounds : goal.invariant-rounds
invariant-rounds g l = IsRun g.D.Disk l.number l.initial.book l.book

-- each round that goes on appends an entry
abbrev pub decreases-rounds : goal.decreases-rounds
decreases-rounds g l = 2 ^ 64 - length l.book.entries
