use Rattle.std.proofs.Common.{◌≡◌, ◌++◌}
use Rattle.serde_json.specs.View.{members_view}
use Rattle.cf_schema.specs.Reading.{names_in}
use Rattle.cf_schema.proofs.members.names.Given as goal

abbrev pub invariant-loop-name : goal.invariant-loop-name
invariant-loop-name l = names_in (members_view l.members.entries) ≡ l.names ++ names_in (members_view l.name-iterator)
