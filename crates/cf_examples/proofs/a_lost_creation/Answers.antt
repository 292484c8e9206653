use Rattle.cf_examples.proofs.LostCreation.{legal, report_0, report_1}
use Rattle.cf_examples.proofs.a_lost_creation.Goals as goal

pub returns-clause-legal : goal.returns-clause-legal
returns-clause-legal c = legal

pub returns-clause-fails : goal.returns-clause-fails
returns-clause-fails c = report_0

pub returns-clause-shows : goal.returns-clause-shows
returns-clause-shows c = report_1
