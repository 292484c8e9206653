-- A list that is changed member by member where it stands: what is done and what is left.
use Rattle.std.proofs.Common.{◌≡◌, ℕ, zero, suc, ◌<◌, ◌≤◌, List, [], ◌∷◌, ◌++◌, length, map, take, drop, set, get_or, refl, ap, sym, ◌∙◌, arith}

module _ {A : Type 0} (f : A → A) where
  -- the first i are as f leaves them, and f is still to come to the others
  abbrev pub half_changed : ℕ → List A → List A
  half_changed i xs = take i xs ++ map f (drop i xs)

  pub changed_next : (xs : List A) (i : ℕ) (d y : A) → i < length xs → y ≡ f (get_or xs i d) → half_changed (suc i) (set xs i y) ≡ half_changed i xs
  changed_next [] i d y h e = absurd (omega (arith, h))
  changed_next (x ∷ xs) zero d y h e = ap (λ v. v ∷ map f xs) e
  changed_next (x ∷ xs) (suc i) d y h e = ap (λ l. x ∷ l) (changed_next xs i d y (omega (arith, h)) e)

  pub changed_all : (xs : List A) (i : ℕ) → length xs ≤ i → half_changed i xs ≡ xs
  changed_all [] zero h = refl
  changed_all [] (suc i) h = refl
  changed_all (x ∷ xs) zero h = absurd (omega (arith, h))
  changed_all (x ∷ xs) (suc i) h = ap (λ l. x ∷ l) (changed_all xs i (omega (arith, h)))
