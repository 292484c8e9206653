use Rattle.std.proofs.Common.{◌≡◌, ◌+◌, ◌≤◌, length}
use Rattle.cf_entry.specs.EntryReading.{entry_of}
use Rattle.cf_journal.specs.Frames.{frames_of, with_front}
use Rattle.cf_journal.proofs.reading.read_frames.Given as goal

abbrev pub invariant-loop-rest : goal.invariant-loop-rest
invariant-loop-rest l = record { read : with_front l.entries (frames_of entry_of l.at l.rest) ≡ frames_of entry_of 9 l.frames; place : l.at + length l.rest ≡ 9 + length l.frames; low : 9 ≤ l.at }

abbrev pub decreases-loop-rest : goal.decreases-loop-rest
decreases-loop-rest l = length l.rest
