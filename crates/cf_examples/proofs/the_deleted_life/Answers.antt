use Rattle.cf_examples.proofs.DeletedLife.{crashes, goes_on, ends_as_promised}
use Rattle.cf_examples.proofs.the_deleted_life.Goals as goal

pub returns-clause-crashes : goal.returns-clause-crashes
returns-clause-crashes c = crashes

pub returns-clause-goes_on : goal.returns-clause-goes_on
returns-clause-goes_on c = goes_on

pub returns-clause-cleared : goal.returns-clause-cleared
returns-clause-cleared c = ends_as_promised
