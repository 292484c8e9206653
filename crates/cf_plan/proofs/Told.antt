-- Lists of which some are left by a test: that one of them passes another, and how many do.
use Rattle.std.proofs.Common.{◌≡◌, suc, arith, length, nat_lt, Bool, true, false, ◌||◌, ◌&&◌, not, List, [], ◌∷◌, ◌++◌, filter, map, cond, refl, ap, ◌∙◌, sym}
use Rattle.std.proofs.lemmas.Bool.{lt-ltb}
use Rattle.std.proofs.lemmas.List.Sums.{length-filter}
use Rattle.std.specs.List.{list_any, count_by}
use Rattle.cf_change.specs.Changes.{is_empty}

-- one of those that pass the first test passes the second just where one passes both
pub any_filtered : {X : Type 0} (p q : X → Bool) (xs : List X) → list_any q (filter p xs) ≡ list_any (λ x. p x && q x) xs
any_filtered p q [] = refl
any_filtered p q (x ∷ xs) = by (any_filtered p q xs) (p x)
  where
    by : list_any q (filter p xs) ≡ list_any (λ y. p y && q y) xs → (b : Bool)
        → list_any q (cond b (x ∷ filter p xs) (filter p xs)) ≡ ((b && q x) || list_any (λ y. p y && q y) xs)
    by h true = ap (λ b. q x || b) h
    by h false = h

-- those that pass two tests, one after the other, pass both
pub filter_filtered : {X : Type 0} (p q : X → Bool) (xs : List X) → filter q (filter p xs) ≡ filter (λ x. p x && q x) xs
filter_filtered p q [] = refl
filter_filtered p q (x ∷ xs) = by (p x) (filter_filtered p q xs)
  where
    at : (c : Bool) → filter q (filter p xs) ≡ filter (λ y. p y && q y) xs
        → cond c (x ∷ filter q (filter p xs)) (filter q (filter p xs)) ≡ cond c (x ∷ filter (λ y. p y && q y) xs) (filter (λ y. p y && q y) xs)
    at true h = ap (λ ys. x ∷ ys) h
    at false h = h

    by : (b : Bool) → filter q (filter p xs) ≡ filter (λ y. p y && q y) xs
        → filter q (cond b (x ∷ filter p xs) (filter p xs)) ≡ cond (b && q x) (x ∷ filter (λ y. p y && q y) xs) (filter (λ y. p y && q y) xs)
    by true h = at (q x) h
    by false h = h

-- the same of what a list is mapped to
pub any_mapped : {X Y : Type 0} (f : X → Y) (q : Y → Bool) (xs : List X) → list_any q (map f xs) ≡ list_any (λ x. q (f x)) xs
any_mapped f q [] = refl
any_mapped f q (x ∷ xs) = ap (λ b. q (f x) || b) (any_mapped f q xs)

some_left : {X : Type 0} (p q : X → Bool) (xs : List X) → nat_lt 0 (length (filter q (filter p xs))) ≡ list_any (λ x. p x && q x) xs
some_left p q [] = refl
some_left p q (x ∷ xs) = by (some_left p q xs) (p x)
  where
    at : nat_lt 0 (length (filter q (filter p xs))) ≡ list_any (λ y. p y && q y) xs → (c : Bool)
        → nat_lt 0 (length (cond c (x ∷ filter q (filter p xs)) (filter q (filter p xs)))) ≡ (c || list_any (λ y. p y && q y) xs)
    at h true = lt-ltb 0 (suc (length (filter q (filter p xs)))) (omega arith)
    at h false = h

    by : nat_lt 0 (length (filter q (filter p xs))) ≡ list_any (λ y. p y && q y) xs → (b : Bool)
        → nat_lt 0 (length (filter q (cond b (x ∷ filter p xs) (filter p xs)))) ≡ ((b && q x) || list_any (λ y. p y && q y) xs)
    by h true = at h (q x)
    by h false = h

some_passes : {X : Type 0} (p q : X → Bool) (xs : List X) → nat_lt 0 (count_by q (filter p xs)) ≡ list_any (λ x. p x && q x) xs
some_passes p q xs = ap (λ n. nat_lt 0 n) (sym (length-filter q (filter p xs))) ∙ some_left p q xs

-- some of those that pass two tests pass a third
pub some_counted : {X : Type 0} (q p r : X → Bool) (xs : List X) → nat_lt 0 (count_by r (filter p (filter q xs))) ≡ list_any (λ x. q x && (p x && r x)) xs
some_counted q p r xs = some_passes p r (filter q xs) ∙ any_filtered q (λ x. p x && r x) xs

-- nothing is left just where none passes
pub none_left : {X : Type 0} (p : X → Bool) (xs : List X) → is_empty (filter p xs) ≡ not (list_any p xs)
none_left p [] = refl
none_left p (x ∷ xs) = by (none_left p xs) (p x)
  where
    by : is_empty (filter p xs) ≡ not (list_any p xs) → (b : Bool) → is_empty (cond b (x ∷ filter p xs) (filter p xs)) ≡ not (b || list_any p xs)
    by h true = refl
    by h false = h

-- two lists joined are empty just where both are
pub empty_joined : {X : Type 0} (xs ys : List X) → is_empty (xs ++ ys) ≡ (is_empty xs && is_empty ys)
empty_joined [] ys = refl
empty_joined (x ∷ xs) ys = refl
