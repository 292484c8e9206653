use Rattle.std.proofs.Common.{◌≡◌, take, true}
use Rattle.cf_effect.specs.Ahead.{Touches}
use Rattle.cf_effect.specs.Layout.{is_place}
use Rattle.cf_effect.proofs.ahead.touch_each.Given as goal

abbrev pub invariant-loop-at : goal.invariant-loop-at
invariant-loop-at l = Touches l.way l.layout l.made l.found (λ k. is_place k (take l.at-index l.places) ≡ true) l.fn.readiness l.readiness
