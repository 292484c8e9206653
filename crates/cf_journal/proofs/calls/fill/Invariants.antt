use Rattle.std.proofs.Common.{◌≡◌, ◌-◌, ◌≤◌, length, take, IsTrue}
use Rattle.cf_journal.specs.Runs.{Unchanged}
use Rattle.cf_journal.proofs.calls.fill.Given as goal

abbrev pub invariant-loop-at : goal.invariant-loop-at
invariant-loop-at g l = record {
  within : l.at ≤ length l.bytes;
  filled : IsTrue g.D.Disk.tells → take l.at l.bytes ≡ take l.at (g.D.Disk.seen l.fn.disk);
  unchanged : IsTrue g.D.Disk.tells → Unchanged g.D.Disk.seen g.D.Disk.may_leave g.D.Disk.moment g.D.Disk.left_since l.fn.disk l.disk;
  room : g.D.Disk.room_of l.disk ≡ g.D.Disk.room_of l.fn.disk;
  count : g.D.Disk.count l.fn.disk ≤ g.D.Disk.count l.disk;
}

abbrev pub decreases-loop-at : goal.decreases-loop-at
decreases-loop-at g l = length l.bytes - l.at
