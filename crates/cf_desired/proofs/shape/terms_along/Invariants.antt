use Rattle.std.proofs.Common.{◌≡◌, ◌++◌, drop, map}
use Rattle.cf_desired.specs.Kept.{turn_in}
use Rattle.cf_desired.specs.Turns.{all_terms}
use Rattle.cf_desired.proofs.shape.terms_along.Given as goal

abbrev pub invariant-loop-turn : goal.invariant-loop-turn
invariant-loop-turn l = all_terms (map turn_in l.turns) ≡ l.terms ++ all_terms (map turn_in (drop l.turn-index l.turns))
