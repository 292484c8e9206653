-- The place of the first of a list that passes a test.
use Rattle.std.proofs.Common.{◌≡◌, ℕ, zero, suc, ◌+◌, ◌<◌, nat_lt, Bool, true, false, not, List, [], ◌∷◌, ◌++◌, length, map, take, find, position, Option, Some, None, option_map, get_or, ◌≤◌, refl, ap, sym, ◌∙◌, subst, arith, cond}
use Rattle.std.specs.Prelude.{is_some}
use Rattle.std.specs.List.{HoldsAt, position_or_len, slice_get}
use Rattle.std.specs.Option.{IfSome, MatchOption, option_and_then, option_copied, option_or}
use Rattle.std.proofs.lemmas.Option.{none-some, same_Some, slice_get_past, slice_get_read}
use denote.Ref.{Bor}
use Rattle.cf_effect.specs.Words.{change_first}

-- by recursion
abbrev pub place : {A : Type 0} → (A → Bool) → List A → Option ℕ
place p [] = None
place p (x ∷ xs) = cond (p x) (Some 0) (option_map suc (place p xs))

module _ {A : Type 0} (p : A → Bool) where
  further : (n m : ℕ) → cond (nat_lt (1 + n) (suc m)) (Some (1 + n)) None ≡ option_map suc (cond (nat_lt n m) (Some n) None)
  further n m = by (nat_lt n m) refl where
    by : (b : Bool) → nat_lt n m ≡ b → cond (nat_lt (1 + n) (suc m)) (Some (1 + n)) None ≡ option_map suc (cond b (Some n) None)
    by true h = grind (arith, h)
    by false h = grind (arith, h)

  pub as_place : (xs : List A) → position p xs ≡ place p xs
  as_place [] = refl
  as_place (x ∷ xs) = by (p x) (as_place xs) where
    by : (b : Bool) → position p xs ≡ place p xs
        → cond (nat_lt (cond (not b) (1 + position_or_len p xs) 0) (length (x ∷ xs))) (Some (cond (not b) (1 + position_or_len p xs) 0)) None ≡ cond b (Some 0) (option_map suc (place p xs))
    by true h = grind arith
    by false h = further (position_or_len p xs) (length xs) ∙ ap (option_map suc) h

  -- what stands there is the first that passes
  stands : (xs : List A) → option_map (slice_get xs) (place p xs) ≡ option_map (λ x. Some x) (find p xs)
  stands [] = refl
  stands (x ∷ xs) = by (p x) (stands xs) where
    inner : (o : Option ℕ) → option_map (slice_get (x ∷ xs)) (option_map suc o) ≡ option_map (slice_get xs) o
    inner None = refl
    inner (Some k) = refl

    by : (b : Bool) → option_map (slice_get xs) (place p xs) ≡ option_map (λ y. Some y) (find p xs)
        → option_map (slice_get (x ∷ xs)) (cond b (Some 0) (option_map suc (place p xs))) ≡ option_map (λ y. Some y) (cond b (Some x) (find p xs))
    by true h = refl
    by false h = inner (place p xs) ∙ h

  pub stands_there : (xs : List A) → option_map (slice_get xs) (position p xs) ≡ option_map (λ x. Some x) (find p xs)
  stands_there xs = ap (option_map (slice_get xs)) (as_place xs) ∙ stands xs

  flat : (o : Option ℕ) (xs : List A) → option_and_then (slice_get xs) o ≡ option_and_then (λ (q : Option A). q) (option_map (slice_get xs) o)
  flat None xs = refl
  flat (Some k) xs = refl

  once : (o : Option A) → option_and_then (λ (q : Option A). q) (option_map (λ x. Some x) o) ≡ o
  once None = refl
  once (Some x) = refl

  pub first_there : (xs : List A) → option_and_then (slice_get xs) (position p xs) ≡ find p xs
  first_there xs = flat (position p xs) xs ∙ ap (option_and_then (λ (q : Option A). q)) (stands_there xs) ∙ once (find p xs)

  -- what stands at the place of the first that passes is that first
  pub at_place : (xs : List A) (k : ℕ) → position p xs ≡ Some k → slice_get xs k ≡ find p xs
  at_place xs k h = ap (option_and_then (slice_get xs)) (sym h) ∙ first_there xs

  is_mapped : {B C : Type 0} (f : B → C) (o : Option B) → is_some (option_map f o) ≡ is_some o
  is_mapped f None = refl
  is_mapped f (Some b) = refl

  -- there is a place where one is found
  pub is_there : (xs : List A) → is_some (position p xs) ≡ is_some (find p xs)
  is_there xs = sym (is_mapped (slice_get xs) (position p xs)) ∙ ap is_some (stands_there xs) ∙ is_mapped (λ x. Some x) (find p xs)

  passes_from : (xs : List A) (k : ℕ) → place p xs ≡ Some k → (x : A) × (slice_get xs k ≡ Some x) × (p x ≡ true)
  passes_from [] k h = absurd (none-some k h)
  passes_from (x ∷ xs) k h = by (p x) refl h (passes_from xs) where
    behind : (o : Option ℕ) → place p xs ≡ o → option_map suc o ≡ Some k
        → ((j : ℕ) → place p xs ≡ Some j → (y : A) × (slice_get xs j ≡ Some y) × (p y ≡ true)) → (y : A) × (slice_get (x ∷ xs) k ≡ Some y) × (p y ≡ true)
    behind None e g more = absurd (none-some k g)
    behind (Some j) e g more = let it = more j e in (it.0, subst (λ n. slice_get (x ∷ xs) n ≡ Some it.0) (same_Some (suc j) k g) it.1, it.2)

    by : (b : Bool) → p x ≡ b → cond b (Some 0) (option_map suc (place p xs)) ≡ Some k
        → ((j : ℕ) → place p xs ≡ Some j → (y : A) × (slice_get xs j ≡ Some y) × (p y ≡ true)) → (y : A) × (slice_get (x ∷ xs) k ≡ Some y) × (p y ≡ true)
    by true e g more = (x, subst (λ n. slice_get (x ∷ xs) n ≡ Some x) (same_Some 0 k g) refl, e)
    by false e g more = behind (place p xs) refl g more

  pub passes_at : (xs : List A) (k : ℕ) → position p xs ≡ Some k → (x : A) × (slice_get xs k ≡ Some x) × (p x ≡ true)
  passes_at xs k h = passes_from xs k (sym (as_place xs) ∙ h)

  -- with one more at the end
  place_last : (xs : List A) (y : A) → place p (xs ++ y ∷ []) ≡ option_or (place p xs) (cond (p y) (Some (length xs)) None)
  place_last [] y = refl
  place_last (x ∷ xs) y = by (p x) (place_last xs y) where
    shifted : (o : Option ℕ) (b : Bool) → option_map suc (option_or o (cond b (Some (length xs)) None)) ≡ option_or (option_map suc o) (cond b (Some (length (x ∷ xs))) None)
    shifted (Some k) b = refl
    shifted None true = refl
    shifted None false = refl

    by : (b : Bool) → place p (xs ++ y ∷ []) ≡ option_or (place p xs) (cond (p y) (Some (length xs)) None)
        → cond b (Some 0) (option_map suc (place p (xs ++ y ∷ []))) ≡ option_or (cond b (Some 0) (option_map suc (place p xs))) (cond (p y) (Some (length (x ∷ xs))) None)
    by true h = refl
    by false h = ap (option_map suc) h ∙ shifted (place p xs) (p y)

  pub position_last : (xs : List A) (y : A) → position p (xs ++ y ∷ []) ≡ option_or (position p xs) (cond (p y) (Some (length xs)) None)
  position_last xs y = as_place (xs ++ y ∷ []) ∙ place_last xs y ∙ ap (λ o. option_or o (cond (p y) (Some (length xs)) None)) (sym (as_place xs))

  -- a place among the first so many
  within_first : (xs : List A) (n k : ℕ) → is_some (place p (take n xs)) ≡ true → place p xs ≡ Some k → k < n
  within_first [] n k g h = absurd (none-some k h)
  within_first (x ∷ xs) zero k g h = absurd cc
  within_first (x ∷ xs) (suc n) k g h = by (p x) g h (within_first xs n) where
    behind : (o : Option ℕ) → place p xs ≡ o → is_some (option_map suc (place p (take n xs))) ≡ true → option_map suc o ≡ Some k
        → ((j : ℕ) → is_some (place p (take n xs)) ≡ true → place p xs ≡ Some j → j < n) → k < suc n
    behind None e f i more = absurd (none-some k i)
    behind (Some j) e f i more =
        let less : j < n = more j (sym (is_mapped suc (place p (take n xs))) ∙ f) e in
        let so : suc j ≡ k = same_Some (suc j) k i in omega arith

    by : (b : Bool) → is_some (cond b (Some 0) (option_map suc (place p (take n xs)))) ≡ true → cond b (Some 0) (option_map suc (place p xs)) ≡ Some k
        → ((j : ℕ) → is_some (place p (take n xs)) ≡ true → place p xs ≡ Some j → j < n) → k < suc n
    by true f i more = let so : 0 ≡ k = same_Some 0 k i in omega arith
    by false f i more = behind (place p xs) refl f i more

  pub position_within : (xs : List A) (n k : ℕ) → is_some (position p (take n xs)) ≡ true → position p xs ≡ Some k → k < n
  position_within xs n k g h = within_first xs n k (ap is_some (sym (as_place (take n xs))) ∙ g) (sym (as_place xs) ∙ h)

-- a test of what a list is mapped to
mapped_place : {A B : Type 0} (f : A → B) (p : B → Bool) (xs : List A) → place (λ x. p (f x)) xs ≡ place p (map f xs)
mapped_place f p [] = refl
mapped_place f p (x ∷ xs) = ap (λ o. cond (p (f x)) (Some 0) (option_map suc o)) (mapped_place f p xs)

pub position_mapped : {A B : Type 0} (f : A → B) (p : B → Bool) (xs : List A) → position (λ x. p (f x)) xs ≡ position p (map f xs)
position_mapped f p xs = as_place (λ x. p (f x)) xs ∙ mapped_place f p xs ∙ sym (as_place p (map f xs))

-- a change of one that the test doesn't tell
changed_place : {A : Type 0} (p q : A → Bool) (f : A → A) → ((x : A) → p (f x) ≡ p x) → (xs : List A) → place p (change_first q f xs) ≡ place p xs
changed_place p q f same [] = refl
changed_place p q f same (x ∷ xs) = by (q x) (changed_place p q f same xs) where
  by : (b : Bool) → place p (change_first q f xs) ≡ place p xs → place p (cond b (f x ∷ xs) (x ∷ change_first q f xs)) ≡ place p (x ∷ xs)
  by true h = ap (λ c. cond c (Some 0) (option_map suc (place p xs))) (same x)
  by false h = ap (λ o. cond (p x) (Some 0) (option_map suc o)) h

pub position_changed : {A : Type 0} (p q : A → Bool) (f : A → A) → ((x : A) → p (f x) ≡ p x) → (xs : List A) → position p (change_first q f xs) ≡ position p xs
position_changed p q f same xs = as_place p (change_first q f xs) ∙ changed_place p q f same xs ∙ sym (as_place p xs)

-- what a lookup by a place finds
pub looked_up : {A : Type 0} (xs : List A) (k : ℕ) (r : Option (Bor A)) → IfSome r (λ x. x.now ≡ get_or xs k x.now)
    → MatchOption r (length xs ≤ k) (λ x. (k < length xs) × HoldsAt (λ y. x.now ≡ y) xs k) → option_copied r ≡ slice_get xs k
looked_up xs k None h g = sym (slice_get_past xs k g)
looked_up xs k (Some x) h g = sym (slice_get_read xs (length xs) k x.now refl g.0 h)
