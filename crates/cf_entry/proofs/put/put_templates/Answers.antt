use Rattle.cf_entry.proofs.Counts.{few_pairs, none_left}
use Rattle.cf_entry.specs.Bytes.{IsTemplate}
use Rattle.cf_entry.proofs.put.put_templates.Goals as goal

pub returns-clause-fits : goal.returns-clause-fits
returns-clause-fits c =
    (few_pairs c.args.templates.now c.requires.small, c.loop-template.invariant.fits (none_left IsTemplate c.args.templates.now c.loop-template.template-index c.loop-template-test.false))
