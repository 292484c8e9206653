use Rattle.cf_entry.specs.declared.entry.Reply.{Reply}
use Rattle.std.proofs.Common.{◌≡◌, inl, List, Option, Some, None, Err, refl, sym, ◌∙◌, ap, subst}
use Rattle.cf_journal.proofs.Moments.{started}
use Rattle.cf_journal.specs.Record.{record_of}
use Rattle.cf_book.specs.Inside.{entries_in}
use Rattle.cf_book.specs.Settling.{ConcludesAs}
use Rattle.cf_book.proofs.Appended.{known_open, same_room}
use Rattle.cf_book.proofs.Settled.{concluded, stepped_so}
use Rattle.cf_book.proofs.homing.conclude.Goals as goal

pub append-requires-clause-room : goal.append-requires-clause-room
append-requires-clause-room g c = c.requires.room c.in-Ok.answer c.in-Ok.ensures

pub append-requires-clause-spare : goal.append-requires-clause-spare
append-requires-clause-spare g c = c.requires.short c.in-Ok.answer c.in-Ok.ensures

pub returns-in-Ok-clause-concludes : goal.returns-in-Ok-clause-concludes
returns-in-Ok-clause-concludes g c =
    concluded g.D.Disk c.args.record.now _ c.args.place c.args.told c.in-Ok.answer _ c.in-Ok.ensures c.append.ensures.appends

pub returns-in-Ok-clause-stepped : goal.returns-in-Ok-clause-stepped
returns-in-Ok-clause-stepped g c = stepped_so c.args.record.now.world _ c.args.told c.in-Ok.answer _ c.in-Ok.ensures c.append.ensures.stepped

pub returns-in-Err-clause-concludes : goal.returns-in-Err-clause-concludes
returns-in-Err-clause-concludes g c =
    subst (λ (p : Option Reply). ConcludesAs {T = Unit {0}} g.D.Disk c.args.record.now c.args.record.now c.args.place c.args.told p (Err c.in-Err.fault)) (sym c.in-Err.ensures.0) (refl, c.in-Err.ensures.1)

pub returns-in-Err-clause-known : goal.returns-in-Err-clause-known
returns-in-Err-clause-known g c = known_open g.D.Disk c.args.record.now c.requires.opened

pub returns-in-Err-clause-moments : goal.returns-in-Err-clause-moments
returns-in-Err-clause-moments g c told =
    started g.D.Disk.moment g.D.Disk.left_since c.args.record.now.disk _
    (λ bytes left. inl (ap record_of (c.requires.opened.stands.durable told bytes (g.met.D.Disk.only_now c.args.record.now.disk bytes told left)) ∙ c.requires.opened.holds told))

pub returns-in-Ok-clause-keeps : goal.returns-in-Ok-clause-keeps
returns-in-Ok-clause-keeps g c = c.append.ensures.keeps

pub returns-in-Err-clause-keeps : goal.returns-in-Err-clause-keeps
returns-in-Err-clause-keeps g c = same_room g.D.Disk c.args.record.now.disk
