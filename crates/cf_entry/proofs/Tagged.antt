-- What stands behind a byte for its kind.
use Rattle.std.proofs.Common.{◌≡◌, ℕ, List, ◌∷◌, ◌++◌, Option, Some, None, ap, ◌∙◌, cond, eqb, inl, inr}
use Rattle.std.proofs.lemmas.Bool.{eqb-true}
use Rattle.cf_entry.specs.Reading.{pick_at}
use Rattle.cf_entry.proofs.Codec.{IsBytes, Taken, Codes, pick_takes, if_some}

pub tagged : {A X : Type 0} (k : ℕ) (f : A → Option X) (spell : A → List ℕ) (Is : A → Type 0) (one : List ℕ → Option (A × List ℕ)) (whole : X → List ℕ) (IsWhole : X → Type 0) → Codes spell Is one → ((a : A) (x : X) → Is a → f a ≡ Some x → (k ∷ spell a ≡ whole x) × IsWhole x)
    → (bytes : List ℕ) (x : X) (rest : List ℕ) → IsBytes bytes → pick_at f one bytes ≡ Some (x, rest) → Taken whole IsWhole (k ∷ bytes) x rest
tagged k f spell Is one whole IsWhole c there bytes x rest h e =
    let p = pick_takes spell Is one f c bytes x rest h e in
    let q = there p.0 x p.1.fits p.2 in
    record { parts = ap (λ r. k ∷ r) p.1.parts ∙ ap (λ s. s ++ rest) q.0; fits = q.1; left = p.1.left }

-- which of the readers of a chain gave what was read
module _ {A : Type 0} (z : A) (P : Type 0) where
  chosen : (k n : ℕ) (r s : Option A) → cond (eqb k n) r s ≡ Some z → (k ≡ n → r ≡ Some z → P) → (s ≡ Some z → P) → P
  chosen k n r s e f g =
      elim (if_some (eqb k n) r s z e) [ inl a ↦ f (eqb-true _ _ a.0) a.1 | inr a ↦ g a.1 ]

  pub last : (k n : ℕ) (r : Option A) → cond (eqb k n) r None ≡ Some z → (k ≡ n → r ≡ Some z → P) → P
  last k n r e f = chosen k n r None e f (λ h. absurd cc)

  pub first_of_3 : (k l m n : ℕ) (r s t : Option A) → cond (eqb k l) r (cond (eqb k m) s (cond (eqb k n) t None)) ≡ Some z → (k ≡ l → r ≡ Some z → P) → (k ≡ m → s ≡ Some z → P) → (k ≡ n → t ≡ Some z → P) → P
  first_of_3 k l m n r s t e f g h = chosen k l r _ e f (λ d. chosen k m s _ d g (λ c. last k n t c h))

  pub first_of_5 : (k l m n o p : ℕ) (r s t u v : Option A) → cond (eqb k l) r (cond (eqb k m) s (cond (eqb k n) t (cond (eqb k o) u (cond (eqb k p) v None)))) ≡ Some z → (k ≡ l → r ≡ Some z → P) → (k ≡ m → s ≡ Some z → P) → (k ≡ n → t ≡ Some z → P) → (k ≡ o → u ≡ Some z → P) → (k ≡ p → v ≡ Some z → P) → P
  first_of_5 k l m n o p r s t u v e f g h i j = chosen k l r _ e f (λ d. chosen k m s _ d g (λ c. first_of_3 k n o p t u v c h i j))

  pub first_of_8 : (k : ℕ) (r s t u v w x y : Option A) → cond (eqb k 1) r (cond (eqb k 2) s (cond (eqb k 3) t (cond (eqb k 4) u (cond (eqb k 5) v (cond (eqb k 6) w (cond (eqb k 7) x (cond (eqb k 8) y None))))))) ≡ Some z → (k ≡ 1 → r ≡ Some z → P) → (k ≡ 2 → s ≡ Some z → P) → (k ≡ 3 → t ≡ Some z → P) → (k ≡ 4 → u ≡ Some z → P) → (k ≡ 5 → v ≡ Some z → P) → (k ≡ 6 → w ≡ Some z → P) → (k ≡ 7 → x ≡ Some z → P) → (k ≡ 8 → y ≡ Some z → P) → P
  first_of_8 k r s t u v w x y e f g h i j l m n = chosen k 1 r _ e f (λ a. chosen k 2 s _ a g (λ b. chosen k 3 t _ b h (λ c. first_of_5 k 4 5 6 7 8 u v w x y c i j l m n)))
