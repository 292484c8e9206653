use denote.Param.Send.{sendable}
use Rattle.std.proofs.Common.{inl}
use Rattle.std.proofs.rt.LibcRuntime.TheSendSync as runtime
use Rattle.cf_progress.proofs.watched.Watched.TheSendSync as watched
use Rattle.cf_engine.proofs.Sent.{lane_send}
use Rattle.cf_engine.proofs.start_line.Goals as goal

pub returns-in-Ok-Ok-Ok : goal.returns-in-Ok-Ok-Ok
returns-in-Ok-Ok-Ok g c = inl (record {
  library = c.in-Ok-Ok-Ok.library;
  library' = c.run.new.library;
  disk = c.in-Ok-Ok-Ok.disk;
  handlers = c.in-Ok-Ok-Ok.lanes.items;
  of_home = c.in-Ok-Ok-Ok.ensures.home;
  is_unasked = (c.in-Ok-Ok-Ok.ensures.faults, c.in-Ok-Ok-Ok.ensures.misses);
  journal_of_home = c.in-Ok-Ok-Ok.ensures'.home;
  is_faultless = c.in-Ok-Ok-Ok.ensures'.faults;
  handlers_are_new = c.in-Ok-Ok-Ok.ensures''.new;
  handlers_of_home = c.in-Ok-Ok-Ok.ensures''.home;
  ended = c.run.result;
  line = record { bad_words = c.run.ensures.bad_words; runs = c.run.ensures.runs };
  exit_is = c.exit_of.ensures;
})

pub run-requires-send-H : goal.run-requires-send-H
run-requires-send-H g c κs within = search (sendable, watched.the_send, runtime.the_send, lane_send) depth 30
