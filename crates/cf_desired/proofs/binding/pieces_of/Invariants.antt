use Rattle.std.proofs.Common.{◌≡◌, map, take}
use Rattle.cf_desired.specs.Kept.{piece_of}
use Rattle.cf_desired.proofs.binding.pieces_of.Given as goal

abbrev pub invariant-loop-pair : goal.invariant-loop-pair
invariant-loop-pair l = l.pieces.items ≡ map piece_of (take l.pair-index l.pair-items)
