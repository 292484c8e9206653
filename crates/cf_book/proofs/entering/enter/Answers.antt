use Rattle.std.proofs.Common.{inl}
use Rattle.cf_journal.proofs.Moments.{weaker}
use Rattle.cf_journal.specs.Record.{IsOldOrKept}
use Rattle.cf_book.specs.Entering.{LeavesEither, LeavesOpening, disk_after, opened_over}
use Rattle.cf_book.specs.Fences.{handed_in}
use Rattle.cf_book.specs.Finding.{entries_of}
use Rattle.cf_book.proofs.Making.{behind, kept_behind, leaves_opening, makes, not_found}
use Rattle.cf_book.proofs.entering.enter.Goals as goal

pub enter_over-requires : goal.enter_over-requires
enter_over-requires g c = c.in-Ok.ensures.1

pub returns-in-Ok-clause-enters : goal.returns-in-Ok-clause-enters
returns-in-Ok-clause-enters g c =
    makes g.D.Disk g.H.Handler c.args.disk c.find.new.disk c.args.lanes.items c.in-Ok.ensures.0 g.met.D.Disk.counts_now
    (entries_of c.in-Ok.found.entries.items) c.in-Ok.ensures.1.holds _ c.enter_over.ensures.enters

pub returns-in-Ok-clause-disk : goal.returns-in-Ok-clause-disk
returns-in-Ok-clause-disk g c = kept_behind g.D.Disk c.args.disk c.find.new.disk _ c.in-Ok.ensures.0.keeps c.enter_over.ensures.keeps

pub returns-in-Ok-clause-moments : goal.returns-in-Ok-clause-moments
returns-in-Ok-clause-moments g c told =
    let keeps = c.in-Ok.ensures.0 in
    let es = entries_of c.in-Ok.found.entries.items in
    let here = handed_in g.H.Handler c.args.lanes.items in
    behind g.D.Disk.moment g.D.Disk.left_since c.args.disk c.find.new.disk (disk_after c.enter_over.result)
    (IsOldOrKept (g.D.Disk.may_leave c.args.disk) (g.D.Disk.seen c.args.disk)) (LeavesEither es (opened_over here es))
    (LeavesOpening g.D.Disk c.args.disk here) (keeps.moments told) (c.enter_over.ensures.moments told)
    (λ bytes k. inl k)
    (λ bytes k. leaves_opening g.D.Disk g.H.Handler c.args.disk c.find.new.disk c.args.lanes.items keeps g.met.D.Disk.counts_now
    (entries_of c.in-Ok.found.entries.items) c.in-Ok.ensures.1.holds bytes told k)

pub returns-in-Err-clause-enters : goal.returns-in-Err-clause-enters
returns-in-Err-clause-enters g c =
    not_found g.D.Disk g.H.Handler c.args.disk c.find.new.disk c.args.lanes.items c.in-Err.ensures.0 g.met.D.Disk.counts_now c.in-Err.fault
    c.in-Err.ensures.1

pub returns-in-Err-clause-disk : goal.returns-in-Err-clause-disk
returns-in-Err-clause-disk g c = c.in-Err.ensures.0.keeps

pub returns-in-Err-clause-moments : goal.returns-in-Err-clause-moments
returns-in-Err-clause-moments g c told =
    weaker g.D.Disk.moment g.D.Disk.left_since c.args.disk c.find.new.disk _ _ (c.in-Err.ensures.0.moments told)
    (λ bytes k. inl k)
