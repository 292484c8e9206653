use Rattle.std.proofs.Common.{length, ◌-◌, ◌≡◌, ◌≤◌, take}
use Rattle.std.specs.Io.KnownBytes.{Appends}
use Rattle.cf_io.proofs.stdout_sink.StdoutSinkSink.put.Given as goal

abbrev pub invariant-loop-written : goal.invariant-loop-written
invariant-loop-written g l = record {
  within : l.written ≤ length l.bytes;
  bytes : Appends (g.W.Write.contents l.fn.self.out) (g.W.Write.contents l.self.out) (take l.written l.bytes);
  faults : l.self.faults ≡ l.fn.self.faults;
}

abbrev pub decreases-loop-written : goal.decreases-loop-written
decreases-loop-written g l = length l.bytes - l.written
