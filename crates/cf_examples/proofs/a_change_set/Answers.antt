use Rattle.cf_examples.proofs.Reviewed.{legal, report_0, refused_0, carried_out, report_carried_out}
use Rattle.cf_examples.proofs.a_change_set.Goals as goal

pub returns-clause-legal : goal.returns-clause-legal
returns-clause-legal c = legal

pub returns-clause-shows : goal.returns-clause-shows
returns-clause-shows c = report_0

pub returns-clause-other_rows : goal.returns-clause-other_rows
returns-clause-other_rows c = refused_0

pub returns-clause-carried_out : goal.returns-clause-carried_out
returns-clause-carried_out c = carried_out

pub returns-clause-shows_carried_out : goal.returns-clause-shows_carried_out
returns-clause-shows_carried_out c = report_carried_out
