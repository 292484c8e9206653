use Rattle.cf_entry.proofs.Counts.{few_pairs, none_left}
use Rattle.cf_entry.specs.Bytes.{IsPair}
use Rattle.cf_entry.proofs.put.put_pairs.Goals as goal

pub returns-clause-fits : goal.returns-clause-fits
returns-clause-fits c =
    (few_pairs c.args.pairs.now c.requires.small, c.loop-pair.invariant.fits (none_left IsPair c.args.pairs.now c.loop-pair.pair-index c.loop-pair-test.false))
