use Rattle.std.proofs.Common.{◌≡◌, ◌++◌}
use Rattle.cf_desired.specs.Shape.{own_in}
use Rattle.cf_desired.proofs.laying.own_ids.Given as goal

abbrev pub invariant-loop-id : goal.invariant-loop-id
invariant-loop-id l = own_in l.template l.order.entries ≡ l.own ++ own_in l.template l.id-iterator
