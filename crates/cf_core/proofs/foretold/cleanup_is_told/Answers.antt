use Rattle.cf_core.proofs.ToldCleanup.{cleanup_begins_told, cleanup_told}
use Rattle.cf_core.proofs.foretold.cleanup_is_told.Goals as goal

pub returns-clause-begins : goal.returns-clause-begins
returns-clause-begins c = cleanup_begins_told

pub returns-clause-stays : goal.returns-clause-stays
returns-clause-stays c = cleanup_told
