use Rattle.cf_entry.proofs.Counts.{few_texts, none_left}
use Rattle.cf_entry.specs.Bytes.{IsText}
use Rattle.cf_entry.proofs.put.put_texts.Goals as goal

pub returns-clause-fits : goal.returns-clause-fits
returns-clause-fits c =
    (few_texts c.args.texts.now c.requires.small, c.loop-text.invariant.fits (none_left IsText c.args.texts.now c.loop-text.text-index c.loop-text-test.false))
