use Rattle.cf_examples.proofs.ContinuedLife.{fails, fails_as_promised, goes_on, ends_as_promised}
use Rattle.cf_examples.proofs.the_continued_life.Goals as goal

pub returns-clause-fails : goal.returns-clause-fails
returns-clause-fails c = fails

pub returns-clause-blamed : goal.returns-clause-blamed
returns-clause-blamed c = fails_as_promised

pub returns-clause-goes_on : goal.returns-clause-goes_on
returns-clause-goes_on c = goes_on

pub returns-clause-restored : goal.returns-clause-restored
returns-clause-restored c = ends_as_promised
