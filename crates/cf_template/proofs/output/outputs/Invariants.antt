use Rattle.std.proofs.Common.{◌≡◌}
use Rattle.serde_json.specs.View.{members_view}
use Rattle.cf_template.specs.Outputs.{outputs_form}
use Rattle.cf_template.proofs.output.outputs.Given as goal

abbrev pub invariant-loop-name : goal.invariant-loop-name
invariant-loop-name l = outputs_form l.params (members_view l.members.entries) l.at l.fn.found ≡ outputs_form l.params (members_view l.name-iterator) l.at l.found
