use Rattle.cf_examples.proofs.PutBackLife.{catches_up, never_stale}
use Rattle.cf_examples.proofs.the_put_back_life.Goals as goal

pub returns-clause-catches_up : goal.returns-clause-catches_up
returns-clause-catches_up c = catches_up

pub returns-clause-never_stale : goal.returns-clause-never_stale
returns-clause-never_stale c = never_stale
