use Rattle.cf_examples.proofs.TakenName.{legal, report_0, refused_0}
use Rattle.cf_examples.proofs.a_taken_name.Goals as goal

pub returns-clause-legal : goal.returns-clause-legal
returns-clause-legal c = legal

pub returns-clause-shows : goal.returns-clause-shows
returns-clause-shows c = report_0

pub returns-clause-made_anew : goal.returns-clause-made_anew
returns-clause-made_anew c = refused_0
