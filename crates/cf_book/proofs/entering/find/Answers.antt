use Rattle.cf_book.specs.Finding.{KeepsJournal}
use Rattle.cf_book.proofs.Opens.{found_on, refused_disk, without_memory}
use Rattle.cf_book.proofs.entering.find.Goals as goal

pub returns-in_err-journal : goal.returns-in_err-journal
returns-in_err-journal g c =
    let keeps : KeepsJournal g.D.Disk c.args.disk.now c.recover.new.disk =
    record {
      record_keeps = c.recover.ensures.kept;
      moments = c.recover.ensures.any_moment;
      keeps = record { room = c.recover.ensures.room; count = c.recover.ensures.count };
    } in
    refused_disk g.D.Disk c.args.disk.now c.recover.new.disk keeps c.from_residual.result _ c.from_residual.ensures.1 c.in_err-journal.ensures.cause

pub returns-in_err-laid_out : goal.returns-in_err-laid_out
returns-in_err-laid_out g c =
    let keeps : KeepsJournal g.D.Disk c.args.disk.now c.recover.new.disk =
    record {
      record_keeps = c.recover.ensures.kept;
      moments = c.recover.ensures.any_moment;
      keeps = record { room = c.recover.ensures.room; count = c.recover.ensures.count };
    } in
    without_memory g.D.Disk c.args.disk.now c.recover.new.disk keeps c.from_residual-in_err-laid_out.result
    c.from_residual-in_err-laid_out.ensures.1

pub returns : goal.returns
returns g c =
    let keeps : KeepsJournal g.D.Disk c.args.disk.now c.recover.new.disk =
    record {
      record_keeps = c.recover.ensures.kept;
      moments = c.recover.ensures.any_moment;
      keeps = record { room = c.recover.ensures.room; count = c.recover.ensures.count };
    } in
    found_on g.D.Disk c.args.disk.now c.recover.new.disk keeps _ _ _ c.in_ok-journal.ensures.stands c.in_ok-journal.ensures.found c.in_ok-laid_out.ensures
