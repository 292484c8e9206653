use Rattle.std.proofs.Common.{take}
use Rattle.cf_effect.specs.Undoing.{AreFirst}
use Rattle.cf_effect.proofs.undoing.are_first.Given as goal

abbrev pub invariant-loop-at : goal.invariant-loop-at
invariant-loop-at l = AreFirst (take l.at l.ids) l.places
