use Rattle.std.proofs.Common.{◌≡◌, map, drop}
use Rattle.cf_tree.specs.Keys.{value_at}
use Rattle.cf_eval.specs.Gives.{member_found}
use Rattle.cf_eval.proofs.sub.own_value.Given as goal

abbrev pub invariant-loop-binding : goal.invariant-loop-binding
invariant-loop-binding l = value_at l.name (map member_found l.own) ≡ value_at l.name (map member_found (drop l.binding-index l.own))
