use Rattle.std.proofs.Common.{◌≡◌}
use Rattle.serde_json.specs.View.{members_view}
use Rattle.cf_template.specs.Resources.{resources_in}
use Rattle.cf_template.proofs.resource.resources.Given as goal

abbrev pub invariant-loop-name : goal.invariant-loop-name
invariant-loop-name l = resources_in l.params (members_view l.members.entries) l.at l.fn.found ≡ resources_in l.params (members_view l.name-iterator) l.at l.found
