use Rattle.cf_examples.proofs.Undeleted.{legal, report_0, refused_0}
use Rattle.cf_examples.proofs.an_undeleted_resource.Goals as goal

pub returns-clause-legal : goal.returns-clause-legal
returns-clause-legal c = legal

pub returns-clause-shows : goal.returns-clause-shows
returns-clause-shows c = report_0

pub returns-clause-kept_too_early : goal.returns-clause-kept_too_early
returns-clause-kept_too_early c = refused_0
