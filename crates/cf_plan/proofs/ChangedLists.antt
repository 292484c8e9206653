-- Lists in which the first that passes a test is changed, or each is, or one more stands at the end.
use Rattle.std.proofs.Common.{◌≡◌, ◌⊎◌, inl, inr, List, ◌∷◌, ◌++◌, Bool, true, false, ◌&&◌, Option, Some, None, refl, sym, ap, subst, ◌∙◌, true≢false, find, filter, option_map, map, [], arith}
use Rattle.cf_tree.specs.Lists.{there}
use Rattle.cf_tree.specs.Lists.{here}
use Rattle.cf_tree.specs.Lists.{In}
use Rattle.cf_effect.specs.Words.{change_first}
use Rattle.cf_tree.specs.Lists.{insert_by}
use Rattle.std.specs.List.{list_any}
use Rattle.std.specs.Option.{option_or}
use Rattle.std.proofs.lemmas.Bool.{cond_both}
use Rattle.std.proofs.lemmas.List.Folds.{find-append, list_any-append}
use Rattle.cf_plan.proofs.CreatedEnd.{in_changed as from_map}
use Rattle.cf_plan.proofs.Listed.{in_cons}
use Rattle.std.specs.Prelude.{◌||◌, cond, fold, ◌↔◌}
pub use Rattle.cf_rests.proofs.OfLists.{either_way}
use Rattle.cf_rests.proofs.OfLists.{found_one}

-- an option that is no value is none
pub none_if : {A : Type 0} (o : Option A) → ((a : A) → o ≡ Some a → ⊥) → o ≡ None
none_if None h = refl
none_if (Some a) h = absurd (h a refl)

pub and_no : (a b : Bool) → b ≡ false → (a && b) ≡ false
and_no true b e = e
and_no false b e = refl

pub no_and : (a b : Bool) → a ≡ false → (a && b) ≡ false
no_and a b e = ap (λ c. c && b) e

-- what is so of each that is made of a list
pub each_map : {A B : Type 0} (P : B → Type 0) (f : A → B) (xs : List A) → ((x : A) → In x xs → P (f x)) → (y : B) → In y (map f xs) → P y
each_map P f xs h y i = let m = from_map f xs y i in subst P m.same (h m.one m.of_list)

-- one more at the end that doesn't pass
pub any_no_more : {A : Type 0} (test : A → Bool) (xs : List A) (x : A) → test x ≡ false → list_any test (xs ++ x ∷ []) ≡ list_any test xs
any_no_more test xs x e = list_any-append test xs (x ∷ []) ∙ ap (λ b. list_any test xs || (b || false)) e ∙ none (list_any test xs) where
  none : (b : Bool) → (b || false) ≡ b
  none true = refl
  none false = refl

-- where the first that passes is changed
module _ {A : Type 0} (test : A → Bool) (change : A → A) where
  pub in_changed : (xs : List A) (y : A) → In y (change_first test change xs) → In y xs ⊎ ((x : A) × (test x ≡ true) × (y ≡ change x))
  in_changed [] y i = inl i
  in_changed (x ∷ xs) y i = by (test x) refl i (in_changed xs y) where
    of_more : (w : A) (zs : List A) → In y (w ∷ zs) → w ≡ x → (In y zs → In y xs ⊎ ((z : A) × (test z ≡ true) × (y ≡ change z)))
        → In y (x ∷ xs) ⊎ ((z : A) × (test z ≡ true) × (y ≡ change z))
    of_more w zs here s ih = inl (subst (λ v. In w (v ∷ xs)) s here)
    of_more w zs (there j) s ih = elim (ih j) [ inl k ↦ inl (there k) | inr k ↦ inr k ]

    of_first : (z : A) → test x ≡ true → z ≡ change x → In y (z ∷ xs) → In y (x ∷ xs) ⊎ ((w : A) × (test w ≡ true) × (y ≡ change w))
    of_first z e s here = inr (x, e, s)
    of_first z e s (there j) = inl (there j)

    by : (b : Bool) → test x ≡ b → In y (cond b (change x ∷ xs) (x ∷ change_first test change xs))
        → (In y (change_first test change xs) → In y xs ⊎ ((z : A) × (test z ≡ true) × (y ≡ change z))) → In y (x ∷ xs) ⊎ ((z : A) × (test z ≡ true) × (y ≡ change z))
    by true e j ih = of_first (change x) e refl j
    by false e j ih = of_more x (change_first test change xs) j refl ih

  module _ (f : A → Bool) (keeps : (a : A) → f (change a) ≡ f a) where
    -- another search finds the same
    pub found_else : (xs : List A) → ((a : A) → In a xs → test a ≡ true → f a ≡ false) → find f (change_first test change xs) ≡ find f xs
    found_else [] h = refl
    found_else (x ∷ xs) h = by (test x) refl (found_else xs (λ a i. h a (there i))) where
      by : (b : Bool) → test x ≡ b → find f (change_first test change xs) ≡ find f xs
          → find f (cond b (change x ∷ xs) (x ∷ change_first test change xs)) ≡ cond (f x) (Some x) (find f xs)
      by true e ih =
          let no : f x ≡ false = h x here e in
          ap (λ b. cond b (Some (change x)) (find f xs)) (keeps x ∙ no) ∙ sym (ap (λ b. cond b (Some x) (find f xs)) no)
      by false e ih = ap (λ o. cond (f x) (Some x) o) ih

    -- and the one that alone passes is found as it is changed
    pub found_changed : (y : A) (xs : List A) → test y ≡ true → ((a : A) → In a xs → test a ≡ true → a ≡ y) → find f xs ≡ Some y → find f (change_first test change xs) ≡ Some (change y)
    found_changed y [] t one e = let no : ⊥ = cc in absurd no
    found_changed y (x ∷ xs) t one e = by (test x) refl (found_changed y xs t (λ a i. one a (there i))) where
      passes : f y ≡ true
      passes = (found_one f (x ∷ xs) y e).1

      else_ : (b : Bool) → f x ≡ b → test x ≡ false → cond b (Some x) (find f xs) ≡ Some y
          → (find f xs ≡ Some y → find f (change_first test change xs) ≡ Some (change y)) → cond b (Some x) (find f (change_first test change xs)) ≡ Some (change y)
      else_ true p n q ih = let same : x ≡ y = cc in absurd (true≢false (sym (ap test same ∙ t) ∙ n))
      else_ false p n q ih = ih q

      by : (b : Bool) → test x ≡ b → (find f xs ≡ Some y → find f (change_first test change xs) ≡ Some (change y))
          → find f (cond b (change x ∷ xs) (x ∷ change_first test change xs)) ≡ Some (change y)
      by true p ih =
          let same : x ≡ y = one x here p in
          ap (λ b. cond b (Some (change x)) (find f xs)) (keeps x ∙ ap f same ∙ passes) ∙ ap (λ a. Some (change a)) same
      by false p ih = else_ (f x) refl p e ih

pub found_no_more : {A : Type 0} (f : A → Bool) (xs : List A) (y : A) → f y ≡ false → find f (xs ++ y ∷ []) ≡ find f xs
found_no_more {A} f xs y e = find-append f xs (y ∷ []) ∙ ap (λ b. option_or (find f xs) (cond b (Some y) None)) e ∙ none (find f xs) where
  none : (o : Option A) → option_or o None ≡ o
  none None = refl
  none (Some a) = refl

-- what joins a list in its place is of it, beside what was of it
module _ {A : Type 0} (test : A → A → Bool) (e : A) where
  inserted : (xs : List A) (a : A) → In e (insert_by test xs a) ↔ (In e xs ⊎ (a ≡ e))
  inserted [] a = (
    λ i. elim (in_cons i) [ inl q ↦ inr q | inr j ↦ inl j ],
    λ s. elim s [ inl i ↦ elim i [ ] | inr q ↦ subst (λ (z : A). In e (z ∷ [])) (sym q) here ],
  )
  inserted (b ∷ xs) a = by (test b a) (inserted xs a)
    where
      by : (t : Bool) → In e (insert_by test xs a) ↔ (In e xs ⊎ (a ≡ e)) → In e (cond t (b ∷ insert_by test xs a) (a ∷ b ∷ xs)) ↔ (In e (b ∷ xs) ⊎ (a ≡ e))
      by true ih = (
        λ i. elim (in_cons i) [ inl q ↦ inl (subst (λ (z : A). In e (z ∷ xs)) (sym q) here) | inr j ↦ elim (ih.0 j) [ inl k ↦ inl (there k) | inr q ↦ inr q ] ],
        λ s. elim s [
          | inl i ↦ elim (in_cons i) [ inl q ↦ subst (λ (z : A). In e (z ∷ insert_by test xs a)) (sym q) here | inr j ↦ there (ih.1 (inl j)) ]
          | inr q ↦ there (ih.1 (inr q))
        ],
      )
      by false ih = (
        λ i. elim (in_cons i) [ inl q ↦ inr q | inr j ↦ inl j ],
        λ s. elim s [ inl i ↦ there i | inr q ↦ subst (λ (z : A). In e (z ∷ b ∷ xs)) (sym q) here ],
      )

  pub all_inserted : (ys xs : List A) → In e (fold (insert_by test) xs ys) ↔ (In e xs ⊎ In e ys)
  all_inserted [] xs = (λ i. inl i, λ s. elim s [ inl i ↦ i | inr j ↦ elim j [ ] ])
  all_inserted (y ∷ ys) xs =
      let ih = all_inserted ys (insert_by test xs y) in
      let one = inserted xs y in (
        λ i. elim (ih.0 i) [
          | inl j ↦ elim (one.0 j) [ inl k ↦ inl k | inr q ↦ inr (subst (λ (z : A). In e (z ∷ ys)) (sym q) here) ]
          | inr j ↦ inr (there j)
        ],
        λ s. elim s [
          | inl k ↦ ih.1 (inl (one.1 (inl k)))
          | inr j ↦ elim (in_cons j) [ inl q ↦ ih.1 (inl (one.1 (inr q))) | inr k ↦ ih.1 (inr k) ]
        ],
      )

-- where each is changed: what is found by a test that the change keeps, and the keys
pub find_mapped : {A : Type 0} (test : A → Bool) (f : A → A) (xs : List A) → ((x : A) → test (f x) ≡ test x) → find test (map f xs) ≡ option_map f (find test xs)
find_mapped test f [] h = refl
find_mapped test f (x ∷ xs) h = grind (arith, h x, find_mapped test f xs h)

pub keys_mapped : {A B K : Type 0} (f : A → B) (key : B → K) (key' : A → K) (xs : List A) → ((x : A) → key (f x) ≡ key' x) → map key (map f xs) ≡ map key' xs
keys_mapped f key key' [] h = refl
keys_mapped f key key' (x ∷ xs) h = ap (λ k. k ∷ map key (map f xs)) (h x) ∙ ap (λ ks. key' x ∷ ks) (keys_mapped f key key' xs h)

-- what is found stays found among those that a test leaves, where it passes
pub find_left : {A : Type 0} (test left : A → Bool) (xs : List A) (x : A) → find test xs ≡ Some x → left x ≡ true → find test (filter left xs) ≡ Some x
find_left test left [] x e l = e
find_left test left (y ∷ xs) x e l = grind (arith, find_left test left xs x)
