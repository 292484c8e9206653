use Rattle.std.proofs.Common.{◌≡◌, ◌∙◌, ℕ, List, Bool, length, take, map, ap, sym, subst, arith}
use Rattle.std.specs.Bool.{IsTrue}
use Rattle.std.proofs.Math.Seq.{take-length}
use Rattle.cf_tree.specs.Keys.{ascends}
use Rattle.cf_desired.specs.Kept.{piece_of}
use Rattle.cf_desired.proofs.Pieces.{pieces_ascend}
use Rattle.cf_desired.proofs.binding.pieces_of.Goals as goal

pub from_vec-requires : goal.from_vec-requires
from_vec-requires c =
    let given = c.as_slice-pair-items.result.now in
    let all : c.loop-pair.pair-index ≡ length given = omega arith in
    let taken : take c.loop-pair.pair-index given ≡ given = ap (λ (k : ℕ). take k given) all ∙ take-length given in
    let same : ascends given ≡ ascends c.loop-pair.pieces.items =
    sym (pieces_ascend given) ∙ ap (λ (gs : List (List ℕ × List ℕ)). ascends (map piece_of gs)) (sym taken) ∙ ap ascends (sym c.loop-pair.invariant) in
    subst (λ (b : Bool). IsTrue b) same c.as_slice-pair-items.ensures.in_order
