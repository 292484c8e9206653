use Rattle.std.proofs.Common.{◌≡◌}
use Rattle.serde_json.specs.View.{members_view}
use Rattle.cf_template.specs.Maps.{mappings_in}
use Rattle.cf_template.proofs.mapping.mappings.Given as goal

abbrev pub invariant-loop-name : goal.invariant-loop-name
invariant-loop-name l = mappings_in (members_view l.members.entries) l.at l.fn.found ≡ mappings_in (members_view l.name-iterator) l.at l.found
