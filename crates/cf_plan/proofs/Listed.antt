-- Members of lists that grow at the end.
use Rattle.std.proofs.Common.{◌≡◌, ◌⊎◌, inl, inr, ℕ, zero, suc, ◌+◌, ◌<◌, Bool, true, false, ◌||◌, List, [], ◌∷◌, ◌++◌, Option, Some, None, length, take, get_or, map, refl, ap, sym, ◌∙◌, subst, arith, true≢false}
use Rattle.std.specs.Prelude.{filter_map}
use Rattle.std.specs.List.{cons_option}
use Rattle.std.specs.Option.{option_to_list}
use Rattle.std.specs.Str.{bytes_eq}
use Rattle.std.proofs.lemmas.Slice.Eq.{bytes_eq-Decides}
use Rattle.cf_tree.specs.Lists.{is_among}
use Rattle.cf_tree.specs.Lists.{there}
use Rattle.cf_tree.specs.Lists.{here}
use Rattle.cf_tree.specs.Lists.{In}

-- at the head or behind it
pub in_cons : {A : Type 0} {x y : A} {ys : List A} → In x (y ∷ ys) → (y ≡ x) ⊎ In x ys
in_cons here = inl refl
in_cons (there e) = inr e

pub in_none : {A : Type 0} {x : A} → In x [] → ⊥
in_none e = elim e [ ]

-- one more at the end
pub in_last : {A : Type 0} (xs : List A) (y x : A) → In x (xs ++ y ∷ []) → In x xs ⊎ (x ≡ y)
in_last [] y x i = elim (in_cons i) [ inl e ↦ inr (sym e) | inr j ↦ absurd (in_none j) ]
in_last (z ∷ zs) y x i = elim (in_cons i) [ inl e ↦ inl (subst (λ c. In x (c ∷ zs)) (sym e) here) | inr j ↦ elim (in_last zs y x j) [ inl k ↦ inl (there k) | inr k ↦ inr k ] ]

pub in_at : {A : Type 0} (xs : List A) (i : ℕ) (d : A) → i < length xs → In (get_or xs i d) xs
in_at [] i d h = absurd (omega (arith, h))
in_at (x ∷ xs) zero d h = here
in_at (x ∷ xs) (suc i) d h = there (in_at xs i d (omega (arith, h)))

pub in_map : {A B : Type 0} (f : A → B) (x : A) (xs : List A) → In x xs → In (f x) (map f xs)
in_map f x [] i = absurd (in_none i)
in_map f x (y ∷ ys) i = elim (in_cons i) [ inl e ↦ subst (λ z. In (f x) (f z ∷ map f ys)) (sym e) here | inr j ↦ there (in_map f x ys j) ]

-- what is mapped of one more
pub map_more : {A B : Type 0} (f : A → B) (xs : List A) (i : ℕ) (d : A) → i < length xs → map f (take (suc i) xs) ≡ map f (take i xs) ++ f (get_or xs i d) ∷ []
map_more f [] i d h = absurd (omega (arith, h))
map_more f (x ∷ xs) zero d h = refl
map_more f (x ∷ xs) (suc i) d h = ap (λ l. f x ∷ l) (map_more f xs i d (omega (arith, h)))

one_listed : {A : Type 0} (o : Option A) → cons_option o [] ≡ option_to_list o
one_listed None = refl
one_listed (Some a) = refl

cons_append : {A : Type 0} (o : Option A) (xs ys : List A) → cons_option o (xs ++ ys) ≡ cons_option o xs ++ ys
cons_append None xs ys = refl
cons_append (Some a) xs ys = refl

pub mapped_more :
    {A B : Type 0} (f : A → Option B) (xs : List A) (i : ℕ) (d : A) → i < length xs →
    filter_map f (take (suc i) xs) ≡ filter_map f (take i xs) ++ option_to_list (f (get_or xs i d))
mapped_more f [] i d h = absurd (omega (arith, h))
mapped_more f (x ∷ xs) zero d h = one_listed (f x)
mapped_more f (x ∷ xs) (suc i) d h =
    ap (cons_option (f x)) (mapped_more f xs i d (omega (arith, h))) ∙ cons_append (f x) (filter_map f (take i xs)) (option_to_list (f (get_or xs i d)))

-- who is among one more
pub among_more : (done : List (List ℕ)) (p q : List ℕ) → is_among q (done ++ p ∷ []) ≡ (is_among q done || bytes_eq q p)
among_more [] p q = or_none (bytes_eq q p)
  where
    or_none : (b : Bool) → (b || false) ≡ b
    or_none true = refl
    or_none false = refl
among_more (d ∷ done) p q = ap (λ b. bytes_eq q d || b) (among_more done p q) ∙ or_more (bytes_eq q d) (is_among q done) (bytes_eq q p)
  where
    or_more : (a b c : Bool) → (a || (b || c)) ≡ ((a || b) || c)
    or_more true b c = refl
    or_more false b c = refl

pub or_cases : (a b : Bool) → a || b ≡ true → (a ≡ true) ⊎ (b ≡ true)
or_cases true b e = inl refl
or_cases false b e = inr e

pub or_left : (a b : Bool) → a ≡ true → a || b ≡ true
or_left true b e = refl
or_left false b e = absurd (true≢false (sym e))

pub or_right : (a b : Bool) → b ≡ true → a || b ≡ true
or_right true b e = refl
or_right false b e = e

pub same_bytes : (p : List ℕ) → bytes_eq p p ≡ true
same_bytes p = (bytes_eq-Decides p p).1 refl

pub bytes_same : (p q : List ℕ) → bytes_eq p q ≡ true → p ≡ q
bytes_same p q = (bytes_eq-Decides p q).0
