use Rattle.cf_examples.proofs.CrashedLife.{crashes, goes_on}
use Rattle.cf_examples.proofs.the_crashed_life.Goals as goal

pub returns-clause-crashes : goal.returns-clause-crashes
returns-clause-crashes c = crashes

pub returns-clause-goes_on : goal.returns-clause-goes_on
returns-clause-goes_on c = goes_on
