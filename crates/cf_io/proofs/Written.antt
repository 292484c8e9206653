-- What a writer holds after several writes of one list of bytes.
use Rattle.std.proofs.Common.{◌≡◌, ℕ, ◌+◌, ◌-◌, ◌≤◌, List, take, drop, length, subst, sym, arith}
use Rattle.std.specs.Prelude.{Option}
use Rattle.std.proofs.Math.Seq.{take-add}
use Rattle.std.proofs.lemmas.List.{take_all, length-drop}
use Rattle.std.specs.Io.KnownBytes.{Appends}
use Rattle.std.proofs.KnownBytes.{Appends-trans}

-- the part of a list from place w on
rest_of : (bytes : List ℕ) (w : ℕ) → take (length bytes - w) (drop w bytes) ≡ drop w bytes
rest_of bytes w = take_all _ _ (omega (arith, length-drop w bytes))

-- the first w bytes, and then n of those that are left
pub written_more : (a b c : Option (List ℕ)) (bytes : List ℕ) (w n : ℕ) → Appends a b (take w bytes)
    → Appends b c (take n (take (length bytes - w) (drop w bytes))) → Appends a c (take (w + n) bytes)
written_more a b c bytes w n p q =
    let more : Appends b c (take n (drop w bytes)) = subst (λ (l : List ℕ). Appends b c (take n l)) (rest_of bytes w) q in
    subst (Appends a c) (sym (take-add w n bytes)) (Appends-trans a b c (take w bytes) (take n (drop w bytes)) p more)

-- a write that takes no more than what is left stays within the list
pub written_within : (bytes : List ℕ) (w n : ℕ) → w ≤ length bytes
    → n ≤ length (take (length bytes - w) (drop w bytes)) → w + n ≤ length bytes
written_within bytes w n h p =
    let left : n ≤ length (drop w bytes) = subst (λ (l : List ℕ). n ≤ length l) (rest_of bytes w) p in
    omega (arith, length-drop w bytes)
