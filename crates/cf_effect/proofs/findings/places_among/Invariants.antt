use Rattle.std.proofs.Common.{take}
use Rattle.cf_effect.specs.Following.{StandAt}
use Rattle.cf_effect.proofs.findings.places_among.Given as goal

abbrev pub invariant-loop-at : goal.invariant-loop-at
invariant-loop-at l = StandAt l.layout (take l.at l.helds) l.places.items
