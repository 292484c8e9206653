-- A file that is read piece by piece.
use Rattle.std.proofs.Common.{◌≡◌, ℕ, ◌+◌, ◌≤◌, List, ◌++◌, length, take, drop, sym, ◌∙◌, ap, arith, take-append-drop}
use Rattle.std.proofs.lemmas.List.{take-take, drop-take}
use Rattle.std.proofs.lemmas.Slice.{take-put_mid}
use borrow.Rule.Slice.PartMut.{put_mid}

pub take_twice : {X : Type 0} (a k : ℕ) (xs : List X) → take a xs ++ take k (drop a xs) ≡ take (a + k) xs
take_twice a k xs =
    ap (λ l. l ++ take k (drop a xs)) (sym (take-take a (a + k) xs (omega arith))) ∙ ap (λ l. take a (take (a + k) xs) ++ l) (sym (drop-take a k xs)) ∙ take-append-drop a (take (a + k) xs)

-- one piece more
pub piece : (file bytes buf : List ℕ) (at k n : ℕ) → take at bytes ≡ take at file → at ≤ length bytes → buf ≡ take n (drop at file) → length buf ≡ k → n ≡ k
    → take (at + k) (put_mid at k bytes buf) ≡ take (at + k) file
piece file bytes buf at k n so_far within is size same =
    take-put_mid at k bytes buf (at + k) (omega arith) within ∙ ap (λ (l : List ℕ). l ++ buf) so_far ∙ ap (λ (l : List ℕ). take at file ++ l) (is ∙ ap (λ (m : ℕ). take m (drop at file)) same)
    ∙ take_twice at k file
