use Rattle.cf_examples.proofs.MadeAndTakenBack.{legal, report_0, refused_0}
use Rattle.cf_examples.proofs.an_update_taken_back.Goals as goal

pub returns-clause-legal : goal.returns-clause-legal
returns-clause-legal c = legal

pub returns-clause-shows : goal.returns-clause-shows
returns-clause-shows c = report_0

pub returns-clause-deleted_in_the_rollback : goal.returns-clause-deleted_in_the_rollback
returns-clause-deleted_in_the_rollback c = refused_0
