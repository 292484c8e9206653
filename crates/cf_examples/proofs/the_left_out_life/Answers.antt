use Rattle.cf_examples.proofs.LeftOutLife.{starts, deletes, clears_as_promised, goes_on, ends_as_promised}
use Rattle.cf_examples.proofs.the_left_out_life.Goals as goal

pub returns-clause-start : goal.returns-clause-start
returns-clause-start c = starts

pub returns-clause-deletes : goal.returns-clause-deletes
returns-clause-deletes c = deletes

pub returns-clause-cleared : goal.returns-clause-cleared
returns-clause-cleared c = clears_as_promised

pub returns-clause-goes_on : goal.returns-clause-goes_on
returns-clause-goes_on c = goes_on

pub returns-clause-complete : goal.returns-clause-complete
returns-clause-complete c = ends_as_promised
