use Rattle.std.proofs.Common.{◌<◌}
use Rattle.cf_effect.specs.Ahead.{Touches}
use Rattle.cf_effect.proofs.ahead.touch_below.Given as goal

abbrev pub invariant-loop-at : goal.invariant-loop-at
invariant-loop-at l = Touches l.way l.layout l.made l.found (λ k. k < l.at) l.fn.readiness l.readiness
