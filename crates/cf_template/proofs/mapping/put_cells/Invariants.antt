use Rattle.std.proofs.Common.{◌≡◌}
use Rattle.serde_json.specs.View.{members_view}
use Rattle.cf_template.specs.Maps.{values_in}
use Rattle.cf_template.proofs.mapping.put_cells.Given as goal

abbrev pub invariant-loop-name : goal.invariant-loop-name
invariant-loop-name l = values_in (members_view l.members.entries) l.at l.fn.found ≡ values_in (members_view l.name-iterator) l.at l.found
