-- The bytes written so far and those that this write took are the first bytes of the list.
use Rattle.cf_io.proofs.Written.{written_more, written_within}
use Rattle.cf_io.proofs.stdout_sink.StdoutSinkSink.put.Goals as goal

pub loop-written-preserved : goal.loop-written-preserved
loop-written-preserved g c = record {
  within = written_within c.args.bytes.now c.loop-written.written c.in-Ok.taken
      c.loop-written.invariant.within c.in-Ok.ensures.bound;
  bytes = written_more _ _ _ c.args.bytes.now c.loop-written.written c.in-Ok.taken
      c.loop-written.invariant.bytes c.in-Ok.ensures.bytes;
  faults = c.loop-written.invariant.faults;
}
