use Rattle.std.proofs.Common.{◌≡◌}
use Rattle.serde_json.specs.View.{members_view}
use Rattle.cf_template.specs.Conds.{conds_in}
use Rattle.cf_template.proofs.cond.conditions.Given as goal

abbrev pub invariant-loop-name : goal.invariant-loop-name
invariant-loop-name l = conds_in l.params (members_view l.members.entries) l.at l.fn.found ≡ conds_in l.params (members_view l.name-iterator) l.at l.found
