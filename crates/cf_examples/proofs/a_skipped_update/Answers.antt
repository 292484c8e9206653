use Rattle.cf_examples.proofs.Skipped.{legal, report_0, report_1, refused_0, refused_1, refused_2, review_is_legal}
use Rattle.cf_examples.proofs.a_skipped_update.Goals as goal

pub returns-clause-legal : goal.returns-clause-legal
returns-clause-legal c = legal

pub returns-clause-fails : goal.returns-clause-fails
returns-clause-fails c = report_0

pub returns-clause-shows : goal.returns-clause-shows
returns-clause-shows c = report_1

pub returns-clause-skips_another : goal.returns-clause-skips_another
returns-clause-skips_another c = refused_0

pub returns-clause-continued_at_once : goal.returns-clause-continued_at_once
returns-clause-continued_at_once c = refused_1

pub returns-clause-reviewed : goal.returns-clause-reviewed
returns-clause-reviewed c = review_is_legal

pub returns-clause-unsure_left_out : goal.returns-clause-unsure_left_out
returns-clause-unsure_left_out c = refused_2
