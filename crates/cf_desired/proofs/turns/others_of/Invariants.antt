use Rattle.std.proofs.Common.{◌≡◌, ◌++◌, drop}
use Rattle.cf_desired.specs.TurnPlaces.{others_from}
use Rattle.cf_desired.proofs.turns.others_of.Given as goal

abbrev pub invariant-loop-at : goal.invariant-loop-at
invariant-loop-at l = others_from 0 l.turns ≡ l.others.items ++ others_from l.at (drop l.at l.turns)
