use Rattle.std.proofs.Common.{take}
use Rattle.cf_effect.specs.Undoing.{AreIds}
use Rattle.cf_effect.proofs.undoing.ids_of.Given as goal

abbrev pub invariant-loop-held : goal.invariant-loop-held
invariant-loop-held l = AreIds (take l.held-index l.made) l.layout l.ids.items
