use Rattle.std.proofs.Common.{take}
use Rattle.cf_plan.specs.StatesKept.{AreRead}
use Rattle.cf_plan.proofs.states.read_each.Given as goal

abbrev pub invariant-loop-place : goal.invariant-loop-place
invariant-loop-place l = AreRead l.findings l.updated l.answered l.helds 0 (take l.place l.rows) l.states.items
