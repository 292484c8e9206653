-- A member joins a list after those that come before it: how far one has looked, and where it goes.
use Rattle.std.proofs.Common.{◌≡◌, ℕ, zero, suc, ◌<◌, Bool, true, false, List, [], ◌∷◌, ◌++◌, length, take, drop, get_or, insert, refl, ap, arith}
use Rattle.cf_tree.specs.Lists.{insert_by}

module _ {A : Type 0} (is_before : A → A → Bool) (a : A) where
  -- the first i of xs stand, and the member joins the others
  abbrev pub joined_behind : ℕ → List A → List A
  joined_behind i xs = take i xs ++ insert_by is_before (drop i xs) a

  pub behind_next : (xs : List A) (i : ℕ) (d : A) → i < length xs → is_before (get_or xs i d) a ≡ true → joined_behind (suc i) xs ≡ joined_behind i xs
  behind_next [] i d h e = absurd (omega (arith, h))
  behind_next (x ∷ xs) zero d h e = rw e refl
  behind_next (x ∷ xs) (suc i) d h e = ap (λ l. x ∷ l) (behind_next xs i d (omega (arith, h)) e)

  pub behind_here : (xs : List A) (i : ℕ) (d : A) → i < length xs → is_before (get_or xs i d) a ≡ false → joined_behind i xs ≡ insert xs i a
  behind_here [] i d h e = absurd (omega (arith, h))
  behind_here (x ∷ xs) zero d h e = rw e refl
  behind_here (x ∷ xs) (suc i) d h e = ap (λ l. x ∷ l) (behind_here xs i d (omega (arith, h)) e)

  pub behind_all : (xs : List A) (i : ℕ) → i ≡ length xs → joined_behind i xs ≡ insert xs i a
  behind_all [] zero e = refl
  behind_all [] (suc i) e = absurd (omega (arith, e))
  behind_all (x ∷ xs) zero e = absurd (omega (arith, e))
  behind_all (x ∷ xs) (suc i) e = ap (λ l. x ∷ l) (behind_all xs i (omega (arith, e)))
