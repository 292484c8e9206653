use Rattle.std.proofs.Common.{ap, subst, sym}
use Rattle.cf_journal.specs.Record.{spare_of}
use Rattle.cf_book.specs.Inside.{doubt_in, entries_in}
use Rattle.cf_book.proofs.Again.{moments_again, open_again, same_record, world_again}
use Rattle.cf_book.proofs.Appended.{known_open, same_room, unmoved}
use Rattle.cf_book.specs.Record.{KeepsRoom}
use Rattle.cf_book.proofs.issuing.enter_again.Goals as goal

pub returns-in-Ok-clause-enters : goal.returns-in-Ok-clause-enters
returns-in-Ok-clause-enters g c = same_record g.D.Disk c.args.record.now c.await_again-awaited.new.record c.await_again-awaited.ensures.disk c.await_again-awaited.ensures.entries c.await_again-awaited.ensures.doubt c.await_again-awaited.ensures.journal

pub returns-in-Ok-clause-opened : goal.returns-in-Ok-clause-opened
returns-in-Ok-clause-opened g c = open_again g.D.Disk c.args.record.now c.await_again-awaited.new.record c.await_again-awaited.ensures.disk c.await_again-awaited.ensures.entries c.await_again-awaited.ensures.doubt c.await_again-awaited.ensures.journal c.requires.opened

pub returns-in-Ok-clause-world : goal.returns-in-Ok-clause-world
returns-in-Ok-clause-world g c = world_again g.D.Disk c.args.record.now c.await_again-awaited.new.record c.await_again-awaited.ensures.disk c.await_again-awaited.ensures.entries c.await_again-awaited.ensures.doubt c.await_again-awaited.ensures.journal c.await_again-awaited.ensures.world c.requires.world

pub returns-in-Ok-clause-known : goal.returns-in-Ok-clause-known
returns-in-Ok-clause-known g c = known_open g.D.Disk c.await_again-awaited.new.record (returns-in-Ok-clause-opened g c)

pub returns-in-Ok-clause-moments : goal.returns-in-Ok-clause-moments
returns-in-Ok-clause-moments g c =
    moments_again g.D.Disk c.args.record.now c.await_again-awaited.new.record c.await_again-awaited.ensures.disk c.await_again-awaited.ensures.entries c.await_again-awaited.ensures.doubt c.await_again-awaited.ensures.journal
    (λ told. unmoved g.D.Disk c.args.record.now.disk (entries_in c.args.record.now) (doubt_in c.args.record.now) told
    (λ bytes left. g.met.D.Disk.only_now c.args.record.now.disk bytes told left) (known_open g.D.Disk c.args.record.now c.requires.opened))

pub returns-in-Err-clause-enters : goal.returns-in-Err-clause-enters
returns-in-Err-clause-enters g c = same_record g.D.Disk c.args.record.now c.await_again-awaited.new.record c.await_again-awaited.ensures.disk c.await_again-awaited.ensures.entries c.await_again-awaited.ensures.doubt c.await_again-awaited.ensures.journal

pub returns-in-Err-clause-opened : goal.returns-in-Err-clause-opened
returns-in-Err-clause-opened g c = open_again g.D.Disk c.args.record.now c.await_again-awaited.new.record c.await_again-awaited.ensures.disk c.await_again-awaited.ensures.entries c.await_again-awaited.ensures.doubt c.await_again-awaited.ensures.journal c.requires.opened

pub returns-in-Err-clause-world : goal.returns-in-Err-clause-world
returns-in-Err-clause-world g c = world_again g.D.Disk c.args.record.now c.await_again-awaited.new.record c.await_again-awaited.ensures.disk c.await_again-awaited.ensures.entries c.await_again-awaited.ensures.doubt c.await_again-awaited.ensures.journal c.await_again-awaited.ensures.world c.requires.world

pub returns-in-Err-clause-known : goal.returns-in-Err-clause-known
returns-in-Err-clause-known g c = known_open g.D.Disk c.await_again-awaited.new.record (returns-in-Err-clause-opened g c)

pub returns-in-Err-clause-moments : goal.returns-in-Err-clause-moments
returns-in-Err-clause-moments g c =
    moments_again g.D.Disk c.args.record.now c.await_again-awaited.new.record c.await_again-awaited.ensures.disk c.await_again-awaited.ensures.entries c.await_again-awaited.ensures.doubt c.await_again-awaited.ensures.journal
    (λ told. unmoved g.D.Disk c.args.record.now.disk (entries_in c.args.record.now) (doubt_in c.args.record.now) told
    (λ bytes left. g.met.D.Disk.only_now c.args.record.now.disk bytes told left) (known_open g.D.Disk c.args.record.now c.requires.opened))

pub returns-in-Ok-clause-keeps : goal.returns-in-Ok-clause-keeps
returns-in-Ok-clause-keeps g c = subst (KeepsRoom g.D.Disk c.args.record.now.disk) (sym c.await_again-awaited.ensures.disk) (same_room g.D.Disk c.args.record.now.disk)

pub returns-in-Err-clause-keeps : goal.returns-in-Err-clause-keeps
returns-in-Err-clause-keeps g c = subst (KeepsRoom g.D.Disk c.args.record.now.disk) (sym c.await_again-awaited.ensures.disk) (same_room g.D.Disk c.args.record.now.disk)
