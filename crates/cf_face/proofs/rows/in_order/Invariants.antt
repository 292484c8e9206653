use Rattle.std.proofs.Common.{◌≡◌, map, take}
use Rattle.cf_face.specs.Report.{held_in_order}
use Rattle.cf_face.proofs.rows.in_order.Given as goal

abbrev pub invariant-loop-one : goal.invariant-loop-one
invariant-loop-one l = map (λ r. r.now) l.rows.items ≡ held_in_order (take l.one-index l.held)
