use Rattle.std.proofs.Common.{◌≡◌, replicate}
use Rattle.cf_effect.specs.Following.{nowhere}
use Rattle.cf_effect.proofs.findings.no_places.Given as goal

abbrev pub invariant-loop : goal.invariant-loop
invariant-loop l = l.places.items ≡ replicate l.counter nowhere
