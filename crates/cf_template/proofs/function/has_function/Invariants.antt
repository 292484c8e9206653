use Rattle.std.proofs.Common.{◌≡◌}
use Rattle.serde_json.specs.View.{members_view}
use Rattle.cf_template.specs.Functions.{has_function}
use Rattle.cf_template.proofs.function.has_function.Given as goal

abbrev pub invariant-loop-name : goal.invariant-loop-name
invariant-loop-name l = has_function (members_view l.members.entries) ≡ has_function (members_view l.name-iterator)
