use Rattle.std.proofs.Common.{arith, subst, sym}
use Rattle.cf_disk.specs.Disk.{LeavesOnly}
use Rattle.cf_journal.proofs.Moments.{weaker}
use Rattle.cf_entry.specs.Entry.{IsProper}
use Rattle.cf_book.specs.Entering.{LeavesEither}
use Rattle.cf_book.specs.Fences.{handed_in}
use Rattle.cf_book.specs.Finding.{RefusesOpening}
use Rattle.cf_book.specs.Inside.{entries_in}
use Rattle.cf_book.specs.Record.{KeepsRoom}
use Rattle.cf_book.proofs.Opens.{known_raised, none_ended, not_opened, of_record, opens_over, raised_disk, ready_opened, unwritten_left, written_left}
use Rattle.cf_book.proofs.entering.open.Goals as goal

pub write-requires-clause-opened : goal.write-requires-clause-opened
write-requires-clause-opened g c = c.requires.record.opened

pub write-requires-clause-world : goal.write-requires-clause-world
write-requires-clause-world g c = c.requires.record.world

pub write-requires-clause-proper : goal.write-requires-clause-proper
write-requires-clause-proper g c = subst IsProper (sym c.requires.opening) tt

pub raise-requires-clause-record : goal.raise-requires-clause-record
raise-requires-clause-record g c =
    ready_opened g.D.Disk c.args.base c.write.new.record c.args.entry (handed_in g.H.Handler c.args.lanes.items) c.requires.opening c.requires.record
    c.in-Ok.ensures.opened c.in-Ok.ensures.steps c.write.ensures.world c.write.ensures.spare

pub raise-requires-clause-none_ended : goal.raise-requires-clause-none_ended
raise-requires-clause-none_ended g c =
    none_ended g.D.Disk c.args.base c.write.new.record c.args.entry (handed_in g.H.Handler c.args.lanes.items) c.requires.opening c.in-Ok.ensures.writes.0

pub raise-requires-clause-places : goal.raise-requires-clause-places
raise-requires-clause-places g c = let room = c.in-Ok.ensures.places in omega (arith, room)

pub unwritten-requires : goal.unwritten-requires
unwritten-requires g c =
    of_record g.D.Disk c.args.base c.write.new.record c.args.entry (handed_in g.H.Handler c.args.lanes.items) c.requires.opening c.in-Err.fault
    c.in-Err.ensures.writes

pub returns-in-Ok-clause-opens : goal.returns-in-Ok-clause-opens
returns-in-Ok-clause-opens g c =
    opens_over g.D.Disk c.args.base c.write.new.record c.args.entry (handed_in g.H.Handler c.args.lanes.items) c.requires.opening g.H.Handler c.args.lanes.items
    _ c.in-Ok.ensures.opened c.write.ensures.world c.in-Ok.ensures.writes c.raise.ensures

pub returns-in-Ok-clause-known : goal.returns-in-Ok-clause-known
returns-in-Ok-clause-known g c =
    known_raised g.D.Disk g.H.Handler c.write.new.record c.args.lanes.items _ c.in-Ok.ensures.opened c.raise.ensures

pub returns-in-Ok-clause-keeps : goal.returns-in-Ok-clause-keeps
returns-in-Ok-clause-keeps g c =
    subst (KeepsRoom g.D.Disk c.args.base.disk) (sym (raised_disk g.D.Disk g.H.Handler c.write.new.record c.args.lanes.items _ c.raise.ensures))
    c.write.ensures.keeps

pub returns-in-Ok-clause-moments : goal.returns-in-Ok-clause-moments
returns-in-Ok-clause-moments g c told =
    subst (λ (d : g.row.D.Denot). LeavesOnly g.D.Disk.moment g.D.Disk.left_since c.args.base.disk d (LeavesEither (entries_in c.args.base) c.args.entry))
    (sym (raised_disk g.D.Disk g.H.Handler c.write.new.record c.args.lanes.items _ c.raise.ensures))
    (weaker g.D.Disk.moment g.D.Disk.left_since c.args.base.disk c.write.new.record.disk _ _ (c.write.ensures.moments told)
    (λ bytes k. written_left g.D.Disk c.args.base c.write.new.record c.args.entry c.requires.record.opened bytes c.in-Ok.ensures.writes k))

pub returns-in-Err-clause-opens : goal.returns-in-Err-clause-opens
returns-in-Err-clause-opens g c =
    subst (λ (d : g.row.D.Denot). RefusesOpening g.D.Disk g.H.Handler c.args.base.disk (entries_in c.args.base) c.args.entry c.args.lanes.items d c.args.lanes.items c.unwritten.result)
    (sym c.into_disk.ensures)
    (subst (RefusesOpening g.D.Disk g.H.Handler c.args.base.disk (entries_in c.args.base) c.args.entry c.args.lanes.items c.write.new.record.disk c.args.lanes.items)
    (sym c.unwritten.ensures)
    (not_opened g.D.Disk c.args.base c.write.new.record c.args.entry (handed_in g.H.Handler c.args.lanes.items) c.requires.opening g.H.Handler c.args.lanes.items
    c.in-Err.fault c.in-Err.ensures.writes c.write.ensures.known))

pub returns-in-Err-clause-keeps : goal.returns-in-Err-clause-keeps
returns-in-Err-clause-keeps g c = subst (KeepsRoom g.D.Disk c.args.base.disk) (sym c.into_disk.ensures) c.write.ensures.keeps

pub returns-in-Err-clause-moments : goal.returns-in-Err-clause-moments
returns-in-Err-clause-moments g c told =
    subst (λ (d : g.row.D.Denot). LeavesOnly g.D.Disk.moment g.D.Disk.left_since c.args.base.disk d (LeavesEither (entries_in c.args.base) c.args.entry))
    (sym c.into_disk.ensures)
    (weaker g.D.Disk.moment g.D.Disk.left_since c.args.base.disk c.write.new.record.disk _ _ (c.write.ensures.moments told)
    (λ bytes k. unwritten_left g.D.Disk c.args.base c.write.new.record c.args.entry c.requires.record.opened bytes c.in-Err.fault c.in-Err.ensures.writes k))
