use Rattle.std.proofs.Common.{List, [], ◌∷◌, ◌++◌, ◌∙◌, ap, sym}
use Rattle.cf_entry.specs.declared.entry.Entry.TheVariants.{Done}
use Rattle.cf_book.specs.Ended.{ended_in}
use Rattle.cf_book.specs.Inside.{doubt_in, entries_in}
use Rattle.cf_book.specs.declared.ending.Ended.{Ended}
use Rattle.cf_book.proofs.Closing.{ended_more, ends_unwritten}
use Rattle.cf_book.proofs.granting.write_noted.Goals as goal

pub returns-in-Ok-clause-ended : goal.returns-in-Ok-clause-ended
returns-in-Ok-clause-ended g c =
    c.push_reserved.ensures.items
    ∙ ap (λ (xs : List Ended). xs ++ record { number = c.args.number; status = c.args.status } ∷ []) c.requires.ended
    ∙ sym (ap ended_in c.in-Ok.ensures.writes.0 ∙ ended_more (entries_in c.args.record.now) (Done c.args.number c.args.status c.args.failed))

pub returns-in-Err-clause-ended : goal.returns-in-Err-clause-ended
returns-in-Err-clause-ended g c =
    c.requires.ended
    ∙ sym (ends_unwritten (Unit {0}) g.D.Disk c.args.record.now.disk c.write.new.record.disk (entries_in c.args.record.now) (entries_in c.write.new.record)
    (doubt_in c.args.record.now) (doubt_in c.write.new.record) (Done c.args.number c.args.status c.args.failed) c.in-Err.fault c.in-Err.ensures.writes)
