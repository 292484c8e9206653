use Rattle.std.proofs.Common.{◌≡◌, ◌++◌, drop, map}
use Rattle.cf_prepare.proofs.planned.kinds_among.Given as goal

abbrev pub invariant-loop-lane : goal.invariant-loop-lane
invariant-loop-lane l = l.kinds ++ map (λ m. m.1) (drop l.lane-index l.lanes) ≡ map (λ m. m.1) l.lanes
