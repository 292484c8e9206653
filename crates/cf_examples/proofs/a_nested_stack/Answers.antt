use Rattle.cf_examples.proofs.Nested.{first_named, flaw_is_told, legal, report_0, refused_0, too_deep_is_told}
use Rattle.cf_examples.proofs.a_nested_stack.Goals as goal

pub returns-clause-legal : goal.returns-clause-legal
returns-clause-legal c = legal

pub returns-clause-shows : goal.returns-clause-shows
returns-clause-shows c = report_0

pub returns-clause-first_named : goal.returns-clause-first_named
returns-clause-first_named c = first_named

pub returns-clause-flaw_told : goal.returns-clause-flaw_told
returns-clause-flaw_told c = flaw_is_told

pub returns-clause-dynamic_condition : goal.returns-clause-dynamic_condition
returns-clause-dynamic_condition c = refused_0

pub returns-clause-too_deep : goal.returns-clause-too_deep
returns-clause-too_deep c = too_deep_is_told
