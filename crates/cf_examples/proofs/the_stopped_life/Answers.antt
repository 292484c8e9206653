use Rattle.cf_examples.proofs.StoppedLife.{starts, stops, stops_again, goes_on, ends_as_promised}
use Rattle.cf_examples.proofs.the_stopped_life.Goals as goal

pub returns-clause-start : goal.returns-clause-start
returns-clause-start c = starts

pub returns-clause-stops : goal.returns-clause-stops
returns-clause-stops c = stops

pub returns-clause-stops_again : goal.returns-clause-stops_again
returns-clause-stops_again c = stops_again

pub returns-clause-goes_on : goal.returns-clause-goes_on
returns-clause-goes_on c = goes_on

pub returns-clause-complete : goal.returns-clause-complete
returns-clause-complete c = ends_as_promised
