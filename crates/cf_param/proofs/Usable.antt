-- A pattern is usable if it is one alone and anchored.
use Rattle.std.proofs.Common.{◌≡◌, ℕ, suc, ◌+◌, ◌<◌, List, ◌∷◌, length, drop, get_or, Bool, true, false, ◌&&◌, refl, ap, sym, add-one}
use Rattle.std.proofs.Math.Seq.{drop-cons}
use Rattle.cf_param.specs.Pattern.{anchored, any_unmatched, is_pattern, is_usable, matches_whole}

both : (a b : Bool) → a ≡ true → b ≡ true → (a && b) ≡ true
both a b h k = rw (h, k) refl

second : (a b : Bool) → b ≡ false → (a && b) ≡ false
second true b h = h
second false b h = refl

pub usable : (pattern : List ℕ) → is_pattern pattern ≡ true → is_pattern (anchored pattern) ≡ true → is_usable pattern ≡ true
usable pattern h k = both (is_pattern pattern) (is_pattern (anchored pattern)) h k

pub unusable_alone : (pattern : List ℕ) → is_pattern pattern ≡ false → is_usable pattern ≡ false
unusable_alone pattern h = rw h refl

pub unusable_anchored : (pattern : List ℕ) → is_pattern (anchored pattern) ≡ false → is_usable pattern ≡ false
unusable_anchored pattern h = second (is_pattern pattern) (is_pattern (anchored pattern)) h

front : (xs : List (List ℕ)) (i : ℕ) (x : List ℕ) → i < length xs → x ≡ get_or xs i x → drop i xs ≡ x ∷ drop (i + 1) xs
front xs i x h e = rw (add-one, drop-cons xs i x h) (ap (λ y. y ∷ drop (suc i) xs) (sym e))

-- a text that the pattern doesn't match, and one that it matches
pub unmatched_here : (pattern : List ℕ) (xs : List (List ℕ)) (i : ℕ) (x : List ℕ) → i < length xs → x ≡ get_or xs i x → matches_whole pattern x ≡ false
    → any_unmatched pattern (drop i xs) ≡ true
unmatched_here pattern xs i x h e k = rw (front xs i x h e, k) refl

pub matched_on : (pattern : List ℕ) (xs : List (List ℕ)) (i : ℕ) (x : List ℕ) → i < length xs → x ≡ get_or xs i x → matches_whole pattern x ≡ true
    → any_unmatched pattern (drop i xs) ≡ any_unmatched pattern (drop (i + 1) xs)
matched_on pattern xs i x h e k = rw (front xs i x h e, k) refl
