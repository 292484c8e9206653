use Rattle.std.proofs.Common.{◌≡◌}
use Rattle.serde_json.specs.View.{members_view}
use Rattle.cf_template.specs.Params.{is_param_member}
use Rattle.cf_template.specs.Shapes.{all_named}
use Rattle.cf_template.proofs.param.are_known.Given as goal

abbrev pub invariant-loop-name : goal.invariant-loop-name
invariant-loop-name l = all_named is_param_member (members_view l.members.entries) ≡ all_named is_param_member (members_view l.name-iterator)
