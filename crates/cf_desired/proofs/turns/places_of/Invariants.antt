use Rattle.std.proofs.Common.{◌≡◌, ◌≤◌, drop, length}
use Rattle.cf_desired.specs.TurnPlaces.{places_from}
use Rattle.cf_desired.proofs.turns.places_of.Given as goal

abbrev pub invariant-loop-left : goal.invariant-loop-left
invariant-loop-left l = (l.left ≤ length l.turns) × (l.places ≡ places_from l.left (drop l.left l.turns))

abbrev pub decreases-loop-left : goal.decreases-loop-left
decreases-loop-left l = l.left
