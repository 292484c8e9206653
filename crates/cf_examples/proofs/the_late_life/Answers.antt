use Rattle.cf_examples.proofs.LateLife.{acts, goes_on}
use Rattle.cf_examples.proofs.the_late_life.Goals as goal

pub returns-clause-acts : goal.returns-clause-acts
returns-clause-acts c = acts

pub returns-clause-goes_on : goal.returns-clause-goes_on
returns-clause-goes_on c = goes_on
