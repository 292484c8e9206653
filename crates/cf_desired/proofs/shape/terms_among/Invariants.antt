use Rattle.std.proofs.Common.{◌≡◌, drop, map}
use Rattle.cf_desired.specs.Kept.{turn_in}
use Rattle.cf_desired.specs.Turns.{terms_among}
use Rattle.cf_desired.proofs.shape.terms_among.Given as goal

abbrev pub invariant-loop-turn : goal.invariant-loop-turn
invariant-loop-turn l = terms_among (map turn_in l.turns) l.path ≡ terms_among (map turn_in (drop l.turn-index l.turns)) l.path
