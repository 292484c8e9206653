use Rattle.std.proofs.Common.{◌≡◌, Some, map, take}
use Rattle.cf_desired.specs.Whole.{right_of}
use Rattle.cf_desired.proofs.whole_plan.rights.Given as goal

abbrev pub invariant-loop-one : goal.invariant-loop-one
invariant-loop-one l = map right_of (take l.one-index l.wanted) ≡ map (λ r. Some r) l.rights
