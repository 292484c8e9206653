use Rattle.cf_examples.proofs.SiteKept.{legal, report_0}
use Rattle.cf_examples.proofs.a_site_kept.Goals as goal

pub returns-clause-legal : goal.returns-clause-legal
returns-clause-legal c = legal

pub returns-clause-shows : goal.returns-clause-shows
returns-clause-shows c = report_0
