-- A list whose first member that passes a test is changed where it stands.
use Rattle.std.proofs.Common.{◌≡◌, ℕ, zero, suc, ◌+◌, ◌<◌, ◌≤◌, nat_lt, Bool, true, false, not, List, [], ◌∷◌, length, position, set, get_or, Option, Some, None, refl, ap, sym, ◌∙◌, arith, cond}
use Rattle.std.specs.List.{position_or_len}
use Rattle.std.proofs.lemmas.List.Quantifiers.{position-Some}
use Rattle.cf_effect.specs.Words.{change_first}

module _ {A : Type 0} (p : A → Bool) (f : A → A) where
  first_from : (xs : List A) (i : ℕ) (d y : A) → i < length xs → p (get_or xs i d) ≡ true → ((k : ℕ) → k < i → p (get_or xs k d) ≡ false) → y ≡ f (get_or xs i d)
      → set xs i y ≡ change_first p f xs
  first_from [] i d y l e b h = absurd (omega (arith, l))
  first_from (x ∷ xs) zero d y l e b h = rw e (ap (λ v. v ∷ xs) h)
  first_from (x ∷ xs) (suc i) d y l e b h = rw (b 0 (omega arith)) (ap (λ l. x ∷ l) (first_from xs i d y (omega (arith, l)) e (λ k m. b (suc k) (omega (arith, m))) h))

  -- to change the one at the place of the first that passes is to change the first that passes
  pub changed_first : (xs : List A) (i : ℕ) (x y : A) → position p xs ≡ Some i → x ≡ get_or xs i x → y ≡ f x → set xs i y ≡ change_first p f xs
  changed_first xs i x y at e g =
      let there = position-Some p xs i x at in
      first_from xs i x y there.0 there.1 there.2 (g ∙ ap f e)

  past_all : (xs : List A) → length xs ≤ position_or_len p xs → change_first p f xs ≡ xs
  past_all [] h = refl
  past_all (x ∷ xs) h = by (p x) h (past_all xs)
    where
      by : (b : Bool) → length (x ∷ xs) ≤ cond (not b) (1 + position_or_len p xs) 0 → (length xs ≤ position_or_len p xs → change_first p f xs ≡ xs) → cond b (f x ∷ xs) (x ∷ change_first p f xs) ≡ x ∷ xs
      by true h g = absurd (omega (arith, h))
      by false h g = ap (λ l. x ∷ l) (g (omega (arith, h)))

  -- where there is no such place, none is changed
  pub changed_none : (xs : List A) → position p xs ≡ None → xs ≡ change_first p f xs
  changed_none xs h = sym (past_all xs (by (position_or_len p xs) (length xs) h))
    where
      by : (n m : ℕ) → cond (nat_lt n m) (Some n) None ≡ None → m ≤ n
      by n m h = grind arith
