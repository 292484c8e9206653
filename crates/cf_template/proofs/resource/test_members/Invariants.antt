use Rattle.std.proofs.Common.{◌≡◌}
use Rattle.serde_json.specs.View.{members_view}
use Rattle.cf_template.specs.Resources.{resource_members_fault}
use Rattle.cf_template.proofs.resource.test_members.Given as goal

abbrev pub invariant-loop-name : goal.invariant-loop-name
invariant-loop-name l = resource_members_fault (members_view l.members.entries) l.at ≡ resource_members_fault (members_view l.name-iterator) l.at
