use Rattle.cf_examples.proofs.FirstLife.{starts, promises, lives, acts}
use Rattle.cf_examples.proofs.the_first_life.Goals as goal

pub returns-clause-lives : goal.returns-clause-lives
returns-clause-lives c = lives

pub returns-clause-acts : goal.returns-clause-acts
returns-clause-acts c = acts

pub returns-clause-start : goal.returns-clause-start
returns-clause-start c = starts

pub returns-clause-promises : goal.returns-clause-promises
returns-clause-promises c = promises
