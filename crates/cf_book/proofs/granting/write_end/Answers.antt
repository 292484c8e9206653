use Rattle.std.proofs.Common.{◌∙◌, ap, sym}
use Rattle.cf_book.specs.Inside.{doubt_in, entries_in}
use Rattle.cf_book.proofs.Appended.{known_open, same_room, unmoved}
use Rattle.cf_book.proofs.granting.write_end.Goals as goal

pub returns-in-Err-clause-ended : goal.returns-in-Err-clause-ended
returns-in-Err-clause-ended g c = c.reserve.ensures.items ∙ c.requires.ended

pub returns-in-Err-clause-known : goal.returns-in-Err-clause-known
returns-in-Err-clause-known g c = known_open g.D.Disk c.args.record.now c.requires.opened

pub returns-in-Err-clause-moments : goal.returns-in-Err-clause-moments
returns-in-Err-clause-moments g c told =
    unmoved g.D.Disk c.args.record.now.disk (entries_in c.args.record.now) (doubt_in c.args.record.now) told
    (λ bytes left. g.met.D.Disk.only_now c.args.record.now.disk bytes told left) (known_open g.D.Disk c.args.record.now c.requires.opened)

pub returns-in-Err-clause-keeps : goal.returns-in-Err-clause-keeps
returns-in-Err-clause-keeps g c = same_room g.D.Disk c.args.record.now.disk
