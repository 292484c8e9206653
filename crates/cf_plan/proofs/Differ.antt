-- Lists of which no two have the same key: what is left of them, one more, and that two of them with one key are one.
use Rattle.std.proofs.Common.{◌≡◌, ◌∙◌, ◌++◌, ◌==◌, ℕ, List, [], ◌∷◌, Bool, true, false, ◌||◌, None, refl, sym, ap, true≢false, map, filter, find, arith}
use Rattle.std.proofs.lemmas.{Bool.eq-eqb, Slice.Eq.bytes_eq-Decides}
use Rattle.std.specs.{List.list_any, Str.bytes_eq}
use Rattle.cf_tree.specs.Named.{all_differ}
use Rattle.cf_tree.specs.Lists.{there}
use Rattle.cf_tree.specs.Lists.{here}
use Rattle.cf_tree.specs.Lists.{In}
use Rattle.cf_plan.proofs.Listed.{in_map}
use Rattle.cf_plan.proofs.RunLists.{any_of, in_back, is_found_in, none_false}

pub differ_rest : {B : Type 0} (same : B → B → Bool) (b : B) (bs : List B) → all_differ same (b ∷ bs) ≡ true → (list_any (same b) bs ≡ false) × (all_differ same bs ≡ true)
differ_rest same b bs h = grind arith

any_less : {A B : Type 0} (f : A → B) (t : B → Bool) (test : A → Bool) (xs : List A) → list_any t (map f xs) ≡ false → list_any t (map f (filter test xs)) ≡ false
any_less f t test [] h = refl
any_less f t test (x ∷ xs) h = grind (arith, any_less f t test xs)

pub differ_less : {A B : Type 0} (same : B → B → Bool) (f : A → B) (test : A → Bool) (xs : List A) → all_differ same (map f xs) ≡ true
    → all_differ same (map f (filter test xs)) ≡ true
differ_less same f test [] h = refl
differ_less same f test (x ∷ xs) h = grind (arith, differ_less same f test xs, any_less f (same (f x)) test xs)

-- one more that is none of them
any_end : {A B : Type 0} (f : A → B) (t : B → Bool) (xs : List A) (y : A) → t (f y) ≡ false → list_any t (map f xs) ≡ false → list_any t (map f (xs ++ y ∷ [])) ≡ false
any_end f t [] y n h = ap (λ b. b || false) n
any_end f t (x ∷ xs) y n h = grind (arith, any_end f t xs y n)

pub differ_end : {A B : Type 0} (same : B → B → Bool) (f : A → B) (xs : List A) (y : A) → ((x : A) → In x xs → same (f x) (f y) ≡ false) → all_differ same (map f xs) ≡ true
    → all_differ same (map f (xs ++ y ∷ [])) ≡ true
differ_end same f [] y n h = refl
differ_end same f (x ∷ xs) y n h =
    let ih = differ_end same f xs y (λ z i. n z (there i)) in let l = any_end f (same (f x)) xs y (n x here) in grind arith

-- where none is found, none of the list passes
pub none_passes : {A : Type 0} (test : A → Bool) (xs : List A) → find test xs ≡ None → (x : A) → In x xs → test x ≡ false
none_passes test xs h x i = none_false (test x) (λ e. let (y, k) = is_found_in test xs x i e in absurd (cc))

-- two of them with the same key are one
module _ {A K : Type 0} (same : K → K → Bool) (is_same : (k l : K) → k ≡ l → same k l ≡ true) (key : A → K) where
  none_same : (x b : A) (xs : List A) → all_differ same (map key (x ∷ xs)) ≡ true → In b xs → key x ≡ key b → ⊥
  none_same x b xs h j e =
      true≢false (sym (any_of (same (key x)) (map key xs) (key b) (in_map key b xs j) (is_same (key x) (key b) e)) ∙ (differ_rest same (key x) (map key xs) h).0)

  pub differ_one : (xs : List A) → all_differ same (map key xs) ≡ true → (a b : A) → In a xs → In b xs → key a ≡ key b → a ≡ b
  differ_one (x ∷ xs) h a b here here e = refl
  differ_one (x ∷ xs) h a b here (there j) e = absurd (none_same x b xs h j e)
  differ_one (x ∷ xs) h a b (there i) here e = absurd (none_same x a xs h i (sym e))
  differ_one (x ∷ xs) h a b (there i) (there j) e = differ_one xs (differ_rest same (key x) (map key xs) h).1 a b i j e
  differ_one [] h a b i j e = elim i [ ]

  pub differ_apart : (xs ys : List A) → all_differ same (map key (xs ++ ys)) ≡ true → (a b : A) → In a xs → In b ys → key a ≡ key b → ⊥
  differ_apart (x ∷ xs) ys h a b here j e = none_same x b (xs ++ ys) h (in_back b xs ys j) e
  differ_apart (x ∷ xs) ys h a b (there i) j e = differ_apart xs ys (differ_rest same (key x) (map key (xs ++ ys)) h).1 a b i j e
  differ_apart [] ys h a b i j e = elim i [ ]

pub one_id : {A : Type 0} (key : A → List ℕ) (xs : List A) → all_differ bytes_eq (map key xs) ≡ true → (x y : A) → In x xs → In y xs → key x ≡ key y → x ≡ y
one_id key = differ_one bytes_eq (λ a b. (bytes_eq-Decides a b).1) key

pub one_number : {A : Type 0} (key : A → ℕ) (xs : List A) → all_differ ◌==◌ (map key xs) ≡ true → (x y : A) → In x xs → In y xs → key x ≡ key y → x ≡ y
one_number key = differ_one ◌==◌ eq-eqb key
