use Rattle.std.proofs.Common.{IsTrue, ◌≡◌, ◌+◌, ◌<◌, ◌^◌, ℕ, List, length, refl, ◌∙◌, ap, subst, arith}
use Rattle.cf_entry.specs.Entry.{spelling_of}
use Rattle.cf_journal.specs.Frames.{frame_of}
use Rattle.cf_journal.specs.Runs.{gate_opened, IsMidway}
use Rattle.cf_journal.specs.Record.{reading_of, record_of, IsBeforeOrAfter}
use Rattle.cf_journal.proofs.Moments.{weaker}
use Rattle.cf_journal.proofs.Entries.{read_whole, starts, midway, Holds, holds}
use Rattle.cf_entry.proofs.Spelled.{spelled_is_read}
use Rattle.cf_journal.proofs.journal.Journal.append.Goals as goal

pub append_frame-requires-clause-start : goal.append_frame-requires-clause-start
append_frame-requires-clause-start g c told =
    let s = c.requires.stands in
    let file = g.D.Disk.seen c.args.disk.now in
    starts file (s.is_made told) c.args.self.now.length (read_whole (reading_of file) c.args.self.now.length (s.is_read told) (s.length_is told))

pub returns-in-Ok-clause-acknowledged : goal.returns-in-Ok-clause-acknowledged
returns-in-Ok-clause-acknowledged g c =
    let s = c.requires.stands in
    let e = c.args.entry.now in
    let file = g.D.Disk.seen c.args.disk.now in
    let new = g.D.Disk.seen c.append_frame.new.disk in
    let end = c.args.self.now.length in
    let body = spelling_of e in
    let small : length body < 2 ^ 32 = omega (arith, s.room) in
    let frame : c.as_slice.result.now ≡ frame_of body = c.as_slice.ensures.value ∙ c.build.ensures.bytes in
    let h : IsTrue g.D.Disk.tells → Holds file new (end + (5 + length body)) e = λ told.
    let written : new ≡ gate_opened file end (frame_of body) = c.in-Ok.ensures.written told ∙ ap (λ (f : List ℕ). gate_opened file end f) frame in
    holds file new end (end + (5 + length body)) e body (s.is_made told) (s.is_read told) (s.length_is told) (spelled_is_read (spelling_of e) e (c.build.ensures.readable c.requires.proper) refl) small written refl in
    record {
      sound = s.sound;
      is_made = λ told. (h told).is_made;
      is_read = λ told. (h told).is_read;
      length_is = λ told. (h told).length_is ∙ omega arith;
      durable = λ told. c.in-Ok.ensures.durable told;
      room = omega (arith, s.room, c.append_frame.ensures.room);
    }

pub returns-in-Ok-clause-added : goal.returns-in-Ok-clause-added
returns-in-Ok-clause-added g c told =
    let s = c.requires.stands in
    let e = c.args.entry.now in
    let file = g.D.Disk.seen c.args.disk.now in
    let end = c.args.self.now.length in
    let body = spelling_of e in
    let small : length body < 2 ^ 32 = omega (arith, s.room) in
    let frame : c.as_slice.result.now ≡ frame_of body = c.as_slice.ensures.value ∙ c.build.ensures.bytes in
    let written : g.D.Disk.seen c.append_frame.new.disk ≡ gate_opened file end (frame_of body) = c.in-Ok.ensures.written told ∙ ap (λ (f : List ℕ). gate_opened file end f) frame in
    (holds file (g.D.Disk.seen c.append_frame.new.disk) end (end + (5 + length body)) e body (s.is_made told) (s.is_read told) (s.length_is told) (spelled_is_read (spelling_of e) e (c.build.ensures.readable c.requires.proper) refl) small written refl).has

pub returns-in-Ok-clause-any_moment : goal.returns-in-Ok-clause-any_moment
returns-in-Ok-clause-any_moment g c told =
    let s = c.requires.stands in
    let e = c.args.entry.now in
    let file = g.D.Disk.seen c.args.disk.now in
    let end = c.args.self.now.length in
    let body = spelling_of e in
    let small : length body < 2 ^ 32 = omega (arith, s.room) in
    let frame : c.as_slice.result.now ≡ frame_of body = c.as_slice.ensures.value ∙ c.build.ensures.bytes in
    let r = read_whole (reading_of file) end (s.is_read told) (s.length_is told) in
    let spells = spelled_is_read (spelling_of e) e (c.build.ensures.readable c.requires.proper) refl in
    weaker g.D.Disk.moment g.D.Disk.left_since c.args.disk.now c.append_frame.new.disk (IsMidway file end c.as_slice.result.now) (IsBeforeOrAfter (record_of file) e) (c.append_frame.ensures.moments told)
    (λ f mid. midway file (s.is_made told) end r e body spells small f (subst (λ (l : List ℕ). IsMidway file end l f) frame mid))

pub returns-in-Err-clause-any_moment : goal.returns-in-Err-clause-any_moment
returns-in-Err-clause-any_moment g c told =
    let s = c.requires.stands in
    let e = c.args.entry.now in
    let file = g.D.Disk.seen c.args.disk.now in
    let end = c.args.self.now.length in
    let body = spelling_of e in
    let small : length body < 2 ^ 32 = omega (arith, s.room) in
    let frame : c.as_slice.result.now ≡ frame_of body = c.as_slice.ensures.value ∙ c.build.ensures.bytes in
    let r = read_whole (reading_of file) end (s.is_read told) (s.length_is told) in
    let spells = spelled_is_read (spelling_of e) e (c.build.ensures.readable c.requires.proper) refl in
    weaker g.D.Disk.moment g.D.Disk.left_since c.args.disk.now c.append_frame.new.disk (IsMidway file end c.as_slice.result.now) (IsBeforeOrAfter (record_of file) e) (c.append_frame.ensures.moments told)
    (λ f mid. midway file (s.is_made told) end r e body spells small f (subst (λ (l : List ℕ). IsMidway file end l f) frame mid))
