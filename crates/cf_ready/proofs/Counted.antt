-- So many of the first of some needs are made.
use Rattle.std.proofs.Common.{◌≡◌, ℕ, zero, suc, ◌+◌, ◌<◌, ◌≤◌, ◌&&◌, not, nat_lt, Bool, true, false, List, [], ◌∷◌, Option, length, take, get_or, refl, sym, ◌∙◌, ap, arith, true≢false}
use Rattle.std.proofs.Math.ListN.{set}
use Rattle.cf_ready.specs.Ready.{MeetsFrom, are_made_in, is_made_in}

module _ (made : List (Option ℕ)) where
  first_false : (a b : Bool) → a ≡ false → (a && b) ≡ false
  first_false true b e = absurd (true≢false e)
  first_false false b e = refl

  both_of : (a b : Bool) → (a && b) ≡ true → (a ≡ true) × (b ≡ true)
  both_of true b e = (refl, e)
  both_of false b e = absurd (true≢false (sym e))

  -- one more is made
  pub met_first : (needs : List ℕ) (n k : ℕ) → n < length needs → k ≡ get_or needs n k → are_made_in made (take n needs) ≡ true → is_made_in made k ≡ true
      → are_made_in made (take (n + 1) needs) ≡ true
  met_first needs n k l e t m = ap (λ j. are_made_in made (take j needs)) (let s : n + 1 ≡ suc n = omega arith in s) ∙ more needs n l e t where
    more : (needs : List ℕ) (n : ℕ) → n < length needs → k ≡ get_or needs n k → are_made_in made (take n needs) ≡ true → are_made_in made (take (suc n) needs) ≡ true
    more [] n l e t = absurd (omega (arith, l))
    more (x ∷ needs) zero l e t = ap (λ b. b && true) (ap (is_made_in made) (sym e) ∙ m)
    more (x ∷ needs) (suc n) l e t =
        let parts = both_of (is_made_in made x) (are_made_in made (take n needs)) t in
        ap (λ b. b && are_made_in made (take (suc n) needs)) parts.0 ∙ more needs n (omega (arith, l)) e parts.1

  -- the next one is not made
  pub met_all : (needs : List ℕ) (n k : ℕ) → n < length needs → k ≡ get_or needs n k → are_made_in made (take n needs) ≡ true → is_made_in made k ≡ false
      → MeetsFrom made needs n
  met_all needs n k l e t m = record { first = t; all = lacks needs n l e t ∙ sym (ap not (below n (length needs) l)) } where
    below : (a b : ℕ) → a < b → nat_lt a b ≡ true
    below a b h = grind (arith, h)

    lacks : (needs : List ℕ) (n : ℕ) → n < length needs → k ≡ get_or needs n k → are_made_in made (take n needs) ≡ true → are_made_in made needs ≡ false
    lacks [] n l e t = absurd (omega (arith, l))
    lacks (x ∷ needs) zero l e t = first_false (is_made_in made x) (are_made_in made needs) (ap (is_made_in made) (sym e) ∙ m)
    lacks (x ∷ needs) (suc n) l e t =
        let parts = both_of (is_made_in made x) (are_made_in made (take n needs)) t in
        ap (λ b. b && are_made_in made needs) parts.0 ∙ lacks needs n (omega (arith, l)) e parts.1

  -- none is left
  pub met_past : (needs : List ℕ) (n : ℕ) → length needs ≤ n → are_made_in made (take n needs) ≡ true → MeetsFrom made needs n
  met_past needs n l t = record { first = t; all = ap (are_made_in made) (sym (whole needs n l)) ∙ t ∙ sym (ap not (above n (length needs) l)) } where
    above : (a b : ℕ) → b ≤ a → nat_lt a b ≡ false
    above a b h = grind (arith, h)

    whole : (xs : List ℕ) (n : ℕ) → length xs ≤ n → take n xs ≡ xs
    whole [] zero l = refl
    whole [] (suc n) l = refl
    whole (x ∷ xs) zero l = absurd (omega (arith, l))
    whole (x ∷ xs) (suc n) l = ap (λ ys. x ∷ ys) (whole xs n (omega (arith, l)))

-- nothing is set past the end
pub set_past : {A : Type 0} (xs : List A) (i : ℕ) (x : A) → length xs ≤ i → xs ≡ set xs i x
set_past [] i x l = refl
set_past (y ∷ xs) zero x l = absurd (omega (arith, l))
set_past (y ∷ xs) (suc i) x l = ap (λ ys. y ∷ ys) (set_past xs i x (omega (arith, l)))
