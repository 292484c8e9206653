use Rattle.std.proofs.Common.{◌≡◌}
use Rattle.serde_json.specs.View.{members_view}
use Rattle.cf_template.specs.Whole.{sections_fault}
use Rattle.cf_template.proofs.whole.test_sections.Given as goal

abbrev pub invariant-loop-name : goal.invariant-loop-name
invariant-loop-name l = sections_fault (members_view l.members.entries) ≡ sections_fault (members_view l.name-iterator)
