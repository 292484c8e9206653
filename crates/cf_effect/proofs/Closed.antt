-- The first that passes a test is taken off a list, and then all others that pass.
use Rattle.std.proofs.Common.{◌≡◌, ℕ, zero, suc, ◌+◌, ◌<◌, ◌≤◌, nat_lt, Bool, true, false, ◌||◌, not, List, [], ◌∷◌, length, filter, find, is_some, position, get_or, Option, Some, None, refl, ap, sym, ◌∙◌, arith, cond}
use Rattle.std.specs.List.{list_any, position_or_len, remove}
use Rattle.std.proofs.lemmas.List.Quantifiers.{position-Some}

module _ {A : Type 0} (p : A → Bool) where
  -- those that do not pass
  abbrev others : List A → List A
  others xs = filter (λ x. not (p x)) xs

  found_from : (xs : List A) (i : ℕ) (d : A) → i < length xs → p (get_or xs i d) ≡ true → ((k : ℕ) → k < i → p (get_or xs k d) ≡ false) → find p xs ≡ Some (get_or xs i d)
  found_from [] i d l e b = absurd (omega (arith, l))
  found_from (x ∷ xs) zero d l e b = rw e refl
  found_from (x ∷ xs) (suc i) d l e b = rw (b 0 (omega arith)) (found_from xs i d (omega (arith, l)) e (λ k m. b (suc k) (omega (arith, m))))

  closed_from : (xs : List A) (i : ℕ) (d : A) → i < length xs → p (get_or xs i d) ≡ true → others (remove xs i) ≡ others xs
  closed_from [] i d l e = absurd (omega (arith, l))
  closed_from (x ∷ xs) zero d l e = rw e refl
  closed_from (x ∷ xs) (suc i) d l e = ap (λ (l : List A). cond (not (p x)) (x ∷ l) l) (closed_from xs i d (omega (arith, l)) e)

  -- the one at the place of the first that passes is the first that passes
  pub first_closed : (xs : List A) (i : ℕ) (x : A) → position p xs ≡ Some i → x ≡ get_or xs i x → Some x ≡ find p xs
  first_closed xs i x h e =
      let there = position-Some p xs i x h in
      sym (found_from xs i x there.0 there.1 there.2 ∙ ap (λ y. Some y) (sym e))

  -- without it, the others are those that they were
  pub closed_first : (xs : List A) (i : ℕ) (x : A) → position p xs ≡ Some i → others (remove xs i) ≡ others xs
  closed_first xs i x h =
      let there = position-Some p xs i x h in
      closed_from xs i x there.0 there.1

  past_all : (xs : List A) → length xs ≤ position_or_len p xs → (find p xs ≡ None) × (others xs ≡ xs)
  past_all [] h = (refl, refl)
  past_all (x ∷ xs) h = by (p x) h (past_all xs)
    where
      by : (b : Bool) → length (x ∷ xs) ≤ cond (not b) (1 + position_or_len p xs) 0 → (length xs ≤ position_or_len p xs → (find p xs ≡ None) × (others xs ≡ xs))
          → (cond b (Some x) (find p xs) ≡ None) × (cond (not b) (x ∷ others xs) (others xs) ≡ x ∷ xs)
      by true h g = absurd (omega (arith, h))
      by false h g = let k = g (omega (arith, h)) in (k.0, ap (λ l. x ∷ l) k.1)

  nowhere : (xs : List A) → position p xs ≡ None → (find p xs ≡ None) × (others xs ≡ xs)
  nowhere xs h = past_all xs (by (position_or_len p xs) (length xs) h)
    where
      by : (n m : ℕ) → cond (nat_lt n m) (Some n) None ≡ None → m ≤ n
      by n m h = grind arith

  -- one passes where one is found
  pub any_found : (xs : List A) → list_any p xs ≡ is_some (find p xs)
  any_found [] = refl
  any_found (x ∷ xs) = by (p x) (any_found xs)
    where
      by : (b : Bool) → list_any p xs ≡ is_some (find p xs) → (b || list_any p xs) ≡ is_some (cond b (Some x) (find p xs))
      by true h = refl
      by false h = h

  -- where none passes, there is none, and all are others
  pub none_closed : (xs : List A) → position p xs ≡ None → None ≡ find p xs
  none_closed xs h = sym ((nowhere xs h).0)

  pub closed_none : (xs : List A) → position p xs ≡ None → xs ≡ others xs
  closed_none xs h = sym ((nowhere xs h).1)
