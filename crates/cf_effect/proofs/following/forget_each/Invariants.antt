use Rattle.std.proofs.Common.{take}
use Rattle.cf_effect.specs.Following.{AreTaken}
use Rattle.cf_effect.proofs.following.forget_each.Given as goal

abbrev pub invariant-loop-place : goal.invariant-loop-place
invariant-loop-place l = AreTaken (take l.place-index l.places) l.fn.found.items l.found.items
