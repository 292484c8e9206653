-- The first member that passes a test.
use Rattle.std.proofs.Common.{◌≡◌, ℕ, zero, suc, ◌<◌, List, [], ◌∷◌, length, get_or, Bool, true, false, Some, None, find, refl, arith}

module _ {X : Type 0} (test : X → Bool) where
  pub find_here : (xs : List X) (i : ℕ) (d : X) → i < length xs → test (get_or xs i d) ≡ true → ((j : ℕ) → j < i → test (get_or xs j d) ≡ false) → find test xs ≡ Some (get_or xs i d)
  find_here [] i d l h b = absurd (omega arith)
  find_here (x ∷ xs) zero d l h b = rw h refl
  find_here (x ∷ xs) (suc i) d l h b = rw (b 0 (omega arith)) (find_here xs i d (omega arith) h (λ j m. b (suc j) (omega arith)))

  pub find_none : (xs : List X) (d : X) → ((j : ℕ) → j < length xs → test (get_or xs j d) ≡ false) → find test xs ≡ None
  find_none [] d b = refl
  find_none (x ∷ xs) d b = rw (b 0 (omega arith)) (find_none xs d (λ j m. b (suc j) (omega arith)))
