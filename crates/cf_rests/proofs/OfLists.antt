-- What is so of each one of a list.
use Rattle.std.proofs.Common.{◌≡◌, List, [], ◌∷◌, ◌++◌, Bool, true, false, Option, Some, None, refl, subst, inl, inr, ◌⊎◌, find}
use Rattle.std.specs.Prelude.{cond}
use Rattle.std.proofs.lemmas.Bool.{cond_both}
use Rattle.cf_tree.specs.Lists.{In, here, there}

-- of two, whichever it is
pub either_way : {A : Type 0} (P : A → Type 0) (b : Bool) (x y : A) → P x → P y → P (cond b x y)
either_way P b x y p q = cond_both b x y P (λ e. p) (λ e. q)

-- what is so of the first and of the others is so of each
pub in_first : {A : Type 0} (P : A → Type 0) (x : A) (xs : List A) → P x → ((a : A) → In a xs → P a) → (a : A) → In a (x ∷ xs) → P a
in_first P x xs p q a here = p
in_first P x xs p q a (there i) = q a i

-- one of a list with one more at its end
pub in_more : {A : Type 0} (P : A → Type 0) (x : A) (xs : List A) → ((a : A) → In a xs → P a) → P x → (a : A) → In a (xs ++ x ∷ []) → P a
in_more P x [] h p a here = p
in_more P x [] h p a (there i) = elim i [ ]
in_more P x (y ∷ xs) h p a here = h y here
in_more P x (y ∷ xs) h p a (there i) = in_more P x xs (λ b j. h b (there j)) p a i

-- one of two lists in a row
pub in_either : {A : Type 0} (x : A) (xs ys : List A) → In x (xs ++ ys) → In x xs ⊎ In x ys
in_either x [] ys i = inr i
in_either x (y ∷ xs) ys here = inl here
in_either x (y ∷ xs) ys (there i) = elim (in_either x xs ys i) [ inl j ↦ inl (there j) | inr j ↦ inr j ]

-- what is found is of the list, and passes
pub found_one : {A : Type 0} (test : A → Bool) (xs : List A) (x : A) → find test xs ≡ Some x → In x xs × (test x ≡ true)
found_one test [] x h = let no : ⊥ = cc in absurd no
found_one test (y ∷ xs) x h = either (test y) refl h (found_one test xs x) where
  either : (b : Bool) → test y ≡ b → cond b (Some y) (find test xs) ≡ Some x → (find test xs ≡ Some x → In x xs × (test x ≡ true)) → In x (y ∷ xs) × (test x ≡ true)
  either true e g ih = let same : y ≡ x = cc in subst (λ z. In z (y ∷ xs) × (test z ≡ true)) same (here, e)
  either false e g ih = let i = ih g in (there i.0, i.1)
