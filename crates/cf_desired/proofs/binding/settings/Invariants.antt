use Rattle.std.proofs.Common.{◌≡◌, take}
use Rattle.cf_desired.specs.Kept.{offer_in}
use Rattle.cf_desired.specs.Listed.{settings_by}
use Rattle.cf_desired.proofs.binding.settings.Given as goal

abbrev pub invariant-loop-param : goal.invariant-loop-param
invariant-loop-param l = l.bound ≡ settings_by (take l.param-index l.param-items) (offer_in l.given)
