-- Members of lists, and what a search finds of them.
use Rattle.std.proofs.Common.{◌≡◌, ℕ, ◌<◌, ◌≤◌, ◌⊎◌, inl, inr, List, [], ◌∷◌, ◌++◌, Bool, true, false, ◌||◌, Option, Some, None, refl, sym, ap, subst, ◌∙◌, filter, find, arith}
use Rattle.std.proofs.lemmas.Bool.{or_left, or_right}
use Rattle.std.specs.Prelude.{cond, reverse, filter_map, length, count_by}
use Rattle.std.specs.List.{cons_option}
use Rattle.std.proofs.lemmas.List.Sums.{length-filter}
use Rattle.std.specs.List.{list_any}
use Rattle.std.proofs.lemmas.List.{reverse-append}
use Rattle.cf_tree.specs.Lists.{there}
use Rattle.cf_tree.specs.Lists.{here}
use Rattle.cf_tree.specs.Lists.{In}
use Rattle.cf_plan.proofs.CreatedStays.{in_more}
use Rattle.cf_plan.proofs.CreatedRight.{in_filter}
pub use Rattle.cf_rests.proofs.OfLists.{in_either}

pub none_false : (b : Bool) → (b ≡ true → ⊥) → b ≡ false
none_false true h = absurd (h refl)
none_false false h = refl

pub or_true : (a b : Bool) → (a || b) ≡ true → (a ≡ true) ⊎ (b ≡ true)
or_true true b h = inl refl
or_true false b h = inr h

pub in_front : {A : Type 0} (x : A) (xs ys : List A) → In x xs → In x (xs ++ ys)
in_front x (y ∷ xs) ys here = here
in_front x (y ∷ xs) ys (there i) = there (in_front x xs ys i)
in_front x [] ys i = elim i [ ]

pub in_back : {A : Type 0} (x : A) (xs ys : List A) → In x ys → In x (xs ++ ys)
in_back x [] ys i = i
in_back x (y ∷ xs) ys i = there (in_back x xs ys i)

pub in_end : {A : Type 0} (x : A) (xs : List A) → In x (xs ++ x ∷ [])
in_end x xs = in_back x xs (x ∷ []) here

pub in_one : {A : Type 0} (x y : A) → In x (y ∷ []) → x ≡ y
in_one x y here = refl
in_one x y (there i) = elim i [ ]

pub in_kept : {A : Type 0} (test : A → Bool) (xs : List A) (x : A) → In x xs → test x ≡ true → In x (filter test xs)
in_kept test (y ∷ xs) x here e = subst (λ b. In x (cond b (x ∷ filter test xs) (filter test xs))) (sym e) here
in_kept test (y ∷ xs) x (there i) e = either (test y) (in_kept test xs x i e) where
  either : (b : Bool) → In x (filter test xs) → In x (cond b (y ∷ filter test xs) (filter test xs))
  either true j = there j
  either false j = j
in_kept test [] x i e = elim i [ ]

pub any_of : {A : Type 0} (test : A → Bool) (xs : List A) (x : A) → In x xs → test x ≡ true → list_any test xs ≡ true
any_of test (y ∷ xs) x here e = or_left (test x) (list_any test xs) e
any_of test (y ∷ xs) x (there i) e = or_right (test y) (list_any test xs) (any_of test xs x i e)
any_of test [] x i e = elim i [ ]

-- one of a list that passes
pub record Passes {A : Type 0} (test : A → Bool) (xs : List A) : Type 0 where
  pub one : A
  pub of_list : In one xs
  pub passes : test one ≡ true

pub some_of : {A : Type 0} (test : A → Bool) (xs : List A) → list_any test xs ≡ true → Passes test xs
some_of test [] h = let no : ⊥ = cc in absurd no
some_of test (y ∷ xs) h = elim (or_true (test y) (list_any test xs) h) [
  | inl e ↦ record { one = y; of_list = here; passes = e }
  | inr e ↦ let p = some_of test xs e in record { one = p.one; of_list = there p.of_list; passes = p.passes }
]

pub none_any : {A : Type 0} (test : A → Bool) (xs : List A) → ((x : A) → In x xs → test x ≡ true → ⊥) → list_any test xs ≡ false
none_any test xs h = none_false (list_any test xs) (λ e. let p = some_of test xs e in h p.one p.of_list p.passes)

pub found_same : {A : Type 0} (f g : A → Bool) (xs : List A) → ((x : A) → In x xs → f x ≡ g x) → find f xs ≡ find g xs
found_same f g [] h = refl
found_same f g (x ∷ xs) h =
    ap (λ b. cond b (Some x) (find f xs)) (h x here) ∙ ap (λ o. cond (g x) (Some x) o) (found_same f g xs (λ y i. h y (there i)))

pub is_found_in : {A : Type 0} (test : A → Bool) (xs : List A) (x : A) → In x xs → test x ≡ true → (y : A) × (find test xs ≡ Some y)
is_found_in test (y ∷ xs) x here e = (x, ap (λ b. cond b (Some x) (find test xs)) e)
is_found_in test (y ∷ xs) x (there i) e = either (test y) (is_found_in test xs x i e) where
  either : (b : Bool) → ((z : _) × (find test xs ≡ Some z)) → (z : _) × (cond b (Some y) (find test xs) ≡ Some z)
  either true k = (y, refl)
  either false k = k
is_found_in test [] x i e = elim i [ ]

reversed_one : {A : Type 0} (x : A) (xs : List A) → reverse (x ∷ xs) ≡ reverse xs ++ x ∷ []
reversed_one x xs = reverse-append (x ∷ []) xs

pub in_reversed : {A : Type 0} (y : A) (xs : List A) → In y (reverse xs) → In y xs
in_reversed y [] i = i
in_reversed y (x ∷ xs) i = in_more (λ z. In z (x ∷ xs)) x (reverse xs) (λ z j. there (in_reversed z xs j)) here y (subst (In y) (reversed_one x xs) i)

pub reversed_more : {A : Type 0} (x : A) (xs : List A) → reverse (xs ++ x ∷ []) ≡ x ∷ reverse xs
reversed_more x xs = reverse-append xs (x ∷ [])

le_or_lt : (a b : ℕ) → (a ≤ b) ⊎ (b < a)
le_or_lt a b = grind (arith)

-- one of a list at which a number is greatest
pub record Greatest {A : Type 0} (f : A → ℕ) (xs : List A) : Type 0 where
  pub one : A
  pub of_list : In one xs
  pub most : (y : A) → In y xs → f y ≤ f one

pub greatest : {A : Type 0} (f : A → ℕ) (x : A) (xs : List A) → Greatest f (x ∷ xs)
greatest f x [] = record { one = x; of_list = here; most = λ y i. only y i } where
  only : (y : _) → In y (x ∷ []) → f y ≤ f x
  only y here = omega arith
  only y (there i) = elim i [ ]
greatest f x (z ∷ zs) = either (greatest f z zs) where
  most_of : (w : _) → f x ≤ f w → ((y : _) → In y (z ∷ zs) → f y ≤ f w) → (y : _) → In y (x ∷ z ∷ zs) → f y ≤ f w
  most_of w h g y here = h
  most_of w h g y (there i) = g y i

  either : Greatest f (z ∷ zs) → Greatest f (x ∷ z ∷ zs)
  either g = elim (le_or_lt (f x) (f g.one)) [
    | inl h ↦ record { one = g.one; of_list = there g.of_list; most = most_of g.one h g.most }
    | inr h ↦ record { one = x; of_list = here; most = most_of x (omega arith) (λ y i. let e : f y ≤ f g.one = g.most y i in omega arith) }
  ]

-- how many pass
some_length : {A : Type 0} (x : A) (xs : List A) → In x xs → 0 < length xs
some_length x (y ∷ xs) i = omega arith
some_length x [] i = elim i [ ]

pub some_counted : {A : Type 0} (test : A → Bool) (xs : List A) (x : A) → In x xs → test x ≡ true → 0 < count_by test xs
some_counted test xs x i e = subst (λ n. 0 < n) (length-filter test xs) (some_length x (filter test xs) (in_kept test xs x i e))

pub one_counted : {A : Type 0} (test : A → Bool) (xs : List A) → 0 < count_by test xs → Passes test xs
one_counted {A} test xs l = by_list (filter test xs) refl (subst (λ n. 0 < n) (sym (length-filter test xs)) l) where
  by_list : (ys : List A) → filter test xs ≡ ys → 0 < length ys → Passes test xs
  by_list [] e k = absurd (omega arith)
  by_list (y ∷ ys) e k = let f = in_filter test xs y (subst (In y) (sym e) here) in record { one = y; of_list = f.0; passes = f.1 }

-- what is made of some of a list
pub record IsMapped {A B : Type 0} (f : A → Option B) (xs : List A) (y : B) : Type 0 where
  pub one : A
  pub of_list : In one xs
  pub same : f one ≡ Some y

pub in_mapped : {A B : Type 0} (f : A → Option B) (xs : List A) (y : B) → In y (filter_map f xs) → IsMapped f xs y
in_mapped f [] y i = elim i [ ]
in_mapped {A} {B} f (x ∷ xs) y i = by_option (f x) refl i (in_mapped f xs y) where
  first : (z : B) → f x ≡ Some z → In y (z ∷ []) ⊎ In y (filter_map f xs) → (In y (filter_map f xs) → IsMapped f xs y) → IsMapped f (x ∷ xs) y
  first z e (inl j) ih = record { one = x; of_list = here; same = e ∙ ap (λ w. Some w) (sym (in_one y z j)) }
  first z e (inr j) ih = let k = ih j in record { one = k.one; of_list = there k.of_list; same = k.same }

  by_option : (o : Option B) → f x ≡ o → In y (cons_option o (filter_map f xs)) → (In y (filter_map f xs) → IsMapped f xs y) → IsMapped f (x ∷ xs) y
  by_option None e j ih = let k = ih j in record { one = k.one; of_list = there k.of_list; same = k.same }
  by_option (Some z) e j ih = first z e (in_either y (z ∷ []) (filter_map f xs) j) ih

pub to_mapped : {A B : Type 0} (f : A → Option B) (xs : List A) (x : A) (y : B) → In x xs → f x ≡ Some y → In y (filter_map f xs)
to_mapped f (z ∷ xs) x y here e = subst (λ o. In y (cons_option o (filter_map f xs))) (sym e) here
to_mapped f (z ∷ xs) x y (there i) e = either (f z) (to_mapped f xs x y i e) where
  either : (o : Option _) → In y (filter_map f xs) → In y (cons_option o (filter_map f xs))
  either None j = j
  either (Some w) j = there j
to_mapped f [] x y i e = elim i [ ]
