use Rattle.cf_examples.proofs.PairedLife.{does_review, reviews_as_promised, goes_on, updates_as_promised, creates_as_promised}
use Rattle.cf_examples.proofs.the_paired_life.Goals as goal

pub returns-clause-reviews : goal.returns-clause-reviews
returns-clause-reviews c = does_review

pub returns-clause-cleared : goal.returns-clause-cleared
returns-clause-cleared c = reviews_as_promised

pub returns-clause-goes_on : goal.returns-clause-goes_on
returns-clause-goes_on c = goes_on

pub returns-clause-updated : goal.returns-clause-updated
returns-clause-updated c = updates_as_promised

pub returns-clause-created : goal.returns-clause-created
returns-clause-created c = creates_as_promised
