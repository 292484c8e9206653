use Rattle.cf_entry.proofs.Counts.{few_details, none_left}
use Rattle.cf_entry.specs.Entry.{IsDetail}
use Rattle.cf_entry.proofs.put.row.put_details.Goals as goal

pub returns-clause-fits : goal.returns-clause-fits
returns-clause-fits c named =
    (few_details c.args.details.now c.requires.small, c.loop-detail.invariant.fits named (none_left IsDetail c.args.details.now c.loop-detail.detail-index c.loop-detail-test.false))
