use Rattle.cf_examples.proofs.Replacement.{legal, report_0, new_id_is_legal, refused_0, refused_1, refused_2, refused_3, refused_4}
use Rattle.cf_examples.proofs.a_replacement.Goals as goal

pub returns-clause-legal : goal.returns-clause-legal
returns-clause-legal c = legal

pub returns-clause-shows : goal.returns-clause-shows
returns-clause-shows c = report_0

pub returns-clause-cleaned_too_early : goal.returns-clause-cleaned_too_early
returns-clause-cleaned_too_early c = refused_0

pub returns-clause-deleted_before_cleanup : goal.returns-clause-deleted_before_cleanup
returns-clause-deleted_before_cleanup c = refused_1

pub returns-clause-new_id : goal.returns-clause-new_id
returns-clause-new_id c = new_id_is_legal

pub returns-clause-old_id_evaluated : goal.returns-clause-old_id_evaluated
returns-clause-old_id_evaluated c = refused_2

pub returns-clause-ended_under_another_number : goal.returns-clause-ended_under_another_number
returns-clause-ended_under_another_number c = refused_3

pub returns-clause-answered_under_another_number : goal.returns-clause-answered_under_another_number
returns-clause-answered_under_another_number c = refused_4
