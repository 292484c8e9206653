-- What is borrowed joins a list in its order.
use Rattle.std.proofs.Common.{◌≡◌, ℕ, zero, suc, ◌≤◌, List, [], ◌∷◌, length, map, insert, refl, ap, arith}

module _ {A B : Type 0} (f : B → A) where
  pub map_insert : (xs : List B) (i : ℕ) (x : B) → i ≤ length xs → map f (insert xs i x) ≡ insert (map f xs) i (f x)
  map_insert [] zero x h = refl
  map_insert [] (suc i) x h = absurd (omega (arith, h))
  map_insert (y ∷ xs) zero x h = refl
  map_insert (y ∷ xs) (suc i) x h = ap (λ l. f y ∷ l) (map_insert xs i x (omega (arith, h)))
