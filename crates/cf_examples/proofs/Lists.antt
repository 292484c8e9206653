-- Members of lists.
use Rattle.std.proofs.Common.{◌≡◌, ◌⊎◌, inl, inr, Bool, true, false, Some, List, [], ◌∷◌, refl, sym, ◌∙◌, ap, subst, true≢false, ◌&&◌, ◌||◌}
use Rattle.std.specs.Prelude.{find, flat_map, map, ◌++◌, if◌then◌else◌}
use Rattle.std.specs.List.{list_all, list_any}
use Rattle.cf_tree.specs.Lists.{there}
use Rattle.cf_tree.specs.Lists.{here}
use Rattle.cf_tree.specs.Lists.{In}
use Rattle.cf_change.specs.Changes.{is_empty}

-- at the head or behind it
pub in_cons : {A : Type 0} {x y : A} {ys : List A} → In x (y ∷ ys) → (y ≡ x) ⊎ In x ys
in_cons here = inl refl
in_cons (there e) = inr e

pub in_none : {A : Type 0} {x : A} → In x [] → ⊥
in_none e = elim e [ ]

pub and_true : (a b : Bool) → (a && b) ≡ true → (a ≡ true) × (b ≡ true)
and_true true b e = (refl, e)
and_true false b e = absurd (true≢false (sym e))

-- each of a list passes
pub each_passes : {A : Type 0} (test : A → Bool) (xs : List A) (x : A) → list_all test xs ≡ true → In x xs → test x ≡ true
each_passes test [] x all i = absurd (in_none i)
each_passes test (y ∷ ys) x all i = elim (in_cons i) [ inl e ↦ subst (λ z. test z ≡ true) e (and_true (test y) (list_all test ys) all).0 | inr j ↦ each_passes test ys x (and_true (test y) (list_all test ys) all).1 j ]

-- the only one, one of two
pub only : {A : Type 0} (P : A → Type 0) {a : A} → P a → (x : A) → In x (a ∷ []) → P x
only P p x i = elim (in_cons i) [ inl e ↦ subst P e p | inr j ↦ absurd (in_none j) ]

pub either : {A : Type 0} (P : A → Type 0) {a b : A} → P a → P b → (x : A) → In x (a ∷ b ∷ []) → P x
either P p q x i = elim (in_cons i) [ inl e ↦ subst P e p | inr j ↦ only P q x j ]

-- one more
pub more : {A : Type 0} (P : A → Type 0) {a : A} {rest : List A} → P a → ((x : A) → In x rest → P x) → (x : A) → In x (a ∷ rest) → P x
more P p others x i = elim (in_cons i) [ inl e ↦ subst P e p | inr j ↦ others x j ]

pub none : {A : Type 0} (P : A → Type 0) → (x : A) → In x [] → P x
none P x i = absurd (in_none i)

-- none of a list passes
pub none_passes : {A : Type 0} (test : A → Bool) (xs : List A) (x : A) → list_any test xs ≡ false → In x xs → test x ≡ false
none_passes test [] x all i = absurd (in_none i)
none_passes test (y ∷ ys) x all i = elim (in_cons i) [ inl e ↦ subst (λ z. test z ≡ false) e (or_false (test y) (list_any test ys) all).0 | inr j ↦ none_passes test ys x (or_false (test y) (list_any test ys) all).1 j ]
  where
    or_false : (a b : Bool) → (a || b) ≡ false → (a ≡ false) × (b ≡ false)
    or_false true b e = absurd (true≢false e)
    or_false false b e = (refl, e)

-- a list with something in it
pub not_empty : {A : Type 0} (xs : List A) → is_empty xs ≡ false → xs ≡ [] → ⊥
not_empty xs e none = true≢false (sym (ap is_empty none) ∙ e)

-- what is found passes, and is one of the list
pub found_passes : {A : Type 0} (test : A → Bool) (xs : List A) (x : A) → find test xs ≡ Some x → (test x ≡ true) × In x xs
found_passes test [] x e = absurd (cc)
found_passes {A} test (y ∷ ys) x e = by_test (λ f. found_passes test ys x f) (test y) refl e
  where
    by_test : (find test ys ≡ Some x → (test x ≡ true) × In x ys) → (t : Bool) → test y ≡ t → (if t then Some y else find test ys) ≡ Some x → (test x ≡ true) × In x (y ∷ ys)
    by_test later true k f = let same : y ≡ x = cc in (subst (λ z. test z ≡ true) same k, subst (λ z. In z (y ∷ ys)) same here)
    by_test later false k f = let z = later f in (z.0, there z.1)

pub in_more : {A : Type 0} (xs ys : List A) (x : A) → In x xs → In x (xs ++ ys)
in_more [] ys x i = absurd (in_none i)
in_more (z ∷ zs) ys x i = elim (in_cons i) [ inl e ↦ subst (λ c. In c (z ∷ zs ++ ys)) e here | inr j ↦ there (in_more zs ys x j) ]

pub in_behind : {A : Type 0} (xs ys : List A) (x : A) → In x ys → In x (xs ++ ys)
in_behind [] ys x i = i
in_behind (z ∷ zs) ys x i = there (in_behind zs ys x i)

pub in_parts : {A B : Type 0} (f : A → List B) (xs : List A) (x : A) (y : B) → In x xs → In y (f x) → In y (flat_map f xs)
in_parts f [] x y i j = absurd (in_none i)
in_parts f (z ∷ zs) x y i j = elim (in_cons i) [ inl e ↦ in_more (f z) (flat_map f zs) y (subst (λ c. In y (f c)) (sym e) j) | inr k ↦ in_behind (f z) (flat_map f zs) y (in_parts f zs x y k j) ]

pub in_mapped : {A B : Type 0} (f : A → B) (xs : List A) (x : A) → In x xs → In (f x) (map f xs)
in_mapped f [] x i = absurd (in_none i)
in_mapped f (z ∷ zs) x i = elim (in_cons i) [ inl e ↦ subst (λ c. In (f c) (f z ∷ map f zs)) e here | inr k ↦ there (in_mapped f zs x k) ]

-- where some pass, one of them does
pub some_passes : {A : Type 0} (test : A → Bool) (xs : List A) → list_any test xs ≡ true → (x : A) × In x xs × (test x ≡ true)
some_passes test [] e = absurd (true≢false (sym e))
some_passes {A} test (y ∷ ys) e = by_test (λ f. some_passes test ys f) (test y) refl e
  where
    by_test : (list_any test ys ≡ true → (x : A) × In x ys × (test x ≡ true)) → (t : Bool) → test y ≡ t → (t || list_any test ys) ≡ true → (x : A) × In x (y ∷ ys) × (test x ≡ true)
    by_test later true k f = (y, here, k)
    by_test later false k f = let z = later f in (z.0, there z.1, z.2)

pub some_is : {A : Type 0} {a b : A} → Some a ≡ Some b → a ≡ b
some_is e = cc
