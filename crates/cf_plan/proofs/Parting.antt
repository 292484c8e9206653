-- What stands before, up to and behind an entry that passes a test.
use Rattle.std.proofs.Common.{◌≡◌, ℕ, zero, suc, ◌-◌, ◌<◌, Bool, true, false, ◌||◌, List, [], ◌∷◌, ◌++◌, length, take, drop, get_or, refl, ap, arith}
use Rattle.std.specs.List.{list_any}
use Rattle.std.proofs.lemmas.List.{length-drop, take_all}
use Rattle.cf_effect.specs.Operation.{after_last, up_to_last, before_first}
use Rattle.cf_plan.specs.Called.{last_place}

module _ {A : Type 0} (test : A → Bool) where
  none_up : (xs : List A) → list_any test xs ≡ false → up_to_last test xs ≡ []
  none_up [] h = refl
  none_up (x ∷ xs) h = rw h refl

  -- what stands behind the last, and up to it
  behind_by : (x : A) (xs : List A) (c b : Bool) → list_any test xs ≡ c → test x ≡ b → after_last test xs ≡ drop (last_place test xs) xs → after_last test (x ∷ xs) ≡ drop (last_place test (x ∷ xs)) (x ∷ xs)
  behind_by x xs true b f e h = rw f h
  behind_by x xs false true f e h = rw f (rw e refl)
  behind_by x xs false false f e h = rw f (rw e refl)

  pub behind_last : (xs : List A) → after_last test xs ≡ drop (last_place test xs) xs
  behind_last [] = refl
  behind_last (x ∷ xs) = behind_by x xs (list_any test xs) (test x) refl refl (behind_last xs)

  up_by : (x : A) (xs : List A) (c b : Bool) → list_any test xs ≡ c → test x ≡ b → up_to_last test xs ≡ take (last_place test xs) xs → up_to_last test (x ∷ xs) ≡ take (last_place test (x ∷ xs)) (x ∷ xs)
  up_by x xs true true f e h = rw e (rw f (ap (λ l. x ∷ l) h))
  up_by x xs true false f e h = rw e (rw f (ap (λ l. x ∷ l) h))
  up_by x xs false true f e h = rw e (rw f (ap (λ l. x ∷ l) (none_up xs f)))
  up_by x xs false false f e h = rw e (rw f refl)

  pub up_last : (xs : List A) → up_to_last test xs ≡ take (last_place test xs) xs
  up_last [] = refl
  up_last (x ∷ xs) = up_by x xs (list_any test xs) (test x) refl refl (up_last xs)

  -- the last of the first ones: one more that passes is the last, one that doesn't changes nothing
  any_here : (xs : List A) (i : ℕ) (d : A) → i < length xs → test (get_or xs i d) ≡ true → list_any test (take (suc i) xs) ≡ true
  any_here [] i d h e = absurd (omega (arith, h))
  any_here (x ∷ xs) zero d h e = rw e refl
  any_here (x ∷ xs) (suc i) d h e = rw (any_here xs i d (omega (arith, h)) e) (any_more (test x))
    where
      any_more : (b : Bool) → (b || true) ≡ true
      any_more true = refl
      any_more false = refl

  any_still : (xs : List A) (i : ℕ) (d : A) → i < length xs → test (get_or xs i d) ≡ false → list_any test (take (suc i) xs) ≡ list_any test (take i xs)
  any_still [] i d h e = absurd (omega (arith, h))
  any_still (x ∷ xs) zero d h e = rw e refl
  any_still (x ∷ xs) (suc i) d h e = ap (λ b. test x || b) (any_still xs i d (omega (arith, h)) e)

  pub ends_last : (xs : List A) (i : ℕ) (d : A) → i < length xs → test (get_or xs i d) ≡ true → last_place test (take (suc i) xs) ≡ suc i
  ends_last [] i d h e = absurd (omega (arith, h))
  ends_last (x ∷ xs) zero d h e = rw e refl
  ends_last (x ∷ xs) (suc i) d h e = rw (any_here xs i d (omega (arith, h)) e) (ap suc (ends_last xs i d (omega (arith, h)) e))

  pub stays_last : (xs : List A) (i : ℕ) (d : A) → i < length xs → test (get_or xs i d) ≡ false → last_place test (take (suc i) xs) ≡ last_place test (take i xs)
  stays_last [] i d h e = absurd (omega (arith, h))
  stays_last (x ∷ xs) zero d h e = rw e refl
  stays_last (x ∷ xs) (suc i) d h e = rw (any_still xs i d (omega (arith, h)) e) (rw (stays_last xs i d (omega (arith, h)) e) refl)

  -- the first ones, none of which passes, and what stands before the first of the others
  abbrev pub first_behind : ℕ → List A → List A
  first_behind i xs = take i xs ++ before_first test (drop i xs)

  pub before_next : (xs : List A) (i : ℕ) (d : A) → i < length xs → test (get_or xs i d) ≡ false → first_behind (suc i) xs ≡ first_behind i xs
  before_next [] i d h e = absurd (omega (arith, h))
  before_next (x ∷ xs) zero d h e = rw e refl
  before_next (x ∷ xs) (suc i) d h e = ap (λ l. x ∷ l) (before_next xs i d (omega (arith, h)) e)

  pub before_here : (xs : List A) (i : ℕ) (d : A) → i < length xs → test (get_or xs i d) ≡ true → first_behind i xs ≡ take i xs
  before_here [] i d h e = absurd (omega (arith, h))
  before_here (x ∷ xs) zero d h e = rw e refl
  before_here (x ∷ xs) (suc i) d h e = ap (λ l. x ∷ l) (before_here xs i d (omega (arith, h)) e)

  pub before_none : (xs : List A) (i : ℕ) → i ≡ length xs → first_behind i xs ≡ xs
  before_none [] zero e = refl
  before_none [] (suc i) e = absurd (omega (arith, e))
  before_none (x ∷ xs) zero e = absurd (omega (arith, e))
  before_none (x ∷ xs) (suc i) e = ap (λ l. x ∷ l) (before_none xs i (omega (arith, e)))

-- all that is left, counted from a place
pub rest_from : {A : Type 0} (xs : List A) (k : ℕ) → take (length xs - k) (drop k xs) ≡ drop k xs
rest_from xs k = take_all (length xs - k) (drop k xs) (omega (arith, length-drop k xs))
