use Rattle.std.proofs.Common.{◌≡◌, drop}
use Rattle.cf_fake.specs.Plan.{break_at}
use Rattle.cf_fake.proofs.plan.break_at.Given as goal

abbrev pub invariant-loop-planned : goal.invariant-loop-planned
invariant-loop-planned l = break_at l.call l.plan ≡ break_at l.call (drop l.planned-index l.plan)
