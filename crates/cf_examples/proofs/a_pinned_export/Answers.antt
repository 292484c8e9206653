use Rattle.cf_examples.proofs.Pinned.{legal, report_0, refused_0, refused_1}
use Rattle.cf_examples.proofs.a_pinned_export.Goals as goal

pub returns-clause-legal : goal.returns-clause-legal
returns-clause-legal c = legal

pub returns-clause-shows : goal.returns-clause-shows
returns-clause-shows c = report_0

pub returns-clause-changed_though_pinned : goal.returns-clause-changed_though_pinned
returns-clause-changed_though_pinned c = refused_0

pub returns-clause-deleted_though_pinned : goal.returns-clause-deleted_though_pinned
returns-clause-deleted_though_pinned c = refused_1
