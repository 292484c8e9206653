use Rattle.std.proofs.Common.{◌≡◌, drop}
use Rattle.cf_fake.specs.Plan.{breaks_fence}
use Rattle.cf_fake.proofs.plan.breaks_fence.Given as goal

abbrev pub invariant-loop-planned : goal.invariant-loop-planned
invariant-loop-planned l = breaks_fence l.plan ≡ breaks_fence (drop l.planned-index l.plan)
