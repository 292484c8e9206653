-- Rows laid out one pass after another are those of a source's resources.
use Rattle.std.proofs.Common.{◌≡◌, ℕ, zero, suc, ◌+◌, ◌<◌, ◌≤◌, ◌==◌, ◌&&◌, ◌||◌, Bool, true, false, not, List, [], ◌∷◌, ◌++◌, length, take, get_or, set, Option, Some, None, refl, ap, sym, ◌∙◌, subst, arith, inl, inr, ◌⊎◌}
use Rattle.std.specs.List.{cons_option, filter_map}
use Rattle.std.specs.Global.{Vec}
use Rattle.std.proofs.Math.Seq.{take-suc}
use Rattle.std.proofs.lemmas.List.{append-nil, length-set}
use Rattle.std.proofs.lemmas.Bool.{cases_eq, cases_lt, eq-eqb, ne_eqb}
use Rattle.cf_effect.specs.declared.layout.Placed.{Placed}
use Rattle.cf_effect.specs.Layout.{is_place, row_needs}
use Rattle.cf_effect.specs.Laying.{AreUsers, JoinsUsers, is_user}

-- users
pub none_empty : (users : List (Vec ℕ)) (u : Vec ℕ) → u.items ≡ [] → ((at other : ℕ) → is_user other at users ≡ false)
    → (at other : ℕ) → is_user other at (users ++ u ∷ []) ≡ false
none_empty [] u e h zero other = ap (is_place other) e
none_empty [] u e h (suc at) other = refl
none_empty (v ∷ users) u e h zero other = h zero other
none_empty (v ∷ users) u e h (suc at) other = none_empty users u e (λ k j. h (suc k) j) at other

place_last : (other j : ℕ) (ks : List ℕ) → is_place j (ks ++ other ∷ []) ≡ (is_place j ks || j == other)
place_last other j [] = or_false (j == other) where
  or_false : (b : Bool) → (b || false) ≡ b
  or_false true = refl
  or_false false = refl
place_last other j (k ∷ ks) = ap (λ b. j == k || b) (place_last other j ks) ∙ or_assoc (j == k) (is_place j ks) (j == other) where
  or_assoc : (a b c : Bool) → (a || (b || c)) ≡ ((a || b) || c)
  or_assoc true b c = refl
  or_assoc false b c = refl

or_last : (b c : Bool) → (b || (c || false)) ≡ (b || c)
or_last true c = refl
or_last false true = refl
or_last false false = refl

or_false : (b : Bool) → (b || false) ≡ b
or_false true = refl
or_false false = refl

eq_suc : (i j : ℕ) → (suc i == suc j) ≡ (i == j)
eq_suc i j = elim (cases_eq i j) [ inl e ↦ eq-eqb (suc i) (suc j) (ap suc e) ∙ sym (eq-eqb i j e) | inr n ↦ ne_eqb (suc i) (suc j) (λ e. n (omega (arith, e))) ∙ sym (ne_eqb i j n) ]

-- one user joins those of a place
user_set : (users : List (Vec ℕ)) (at other : ℕ) (v w : Vec ℕ) → at < length users → v ≡ get_or users at v → w.items ≡ v.items ++ other ∷ []
    → (i j : ℕ) → is_user j i (set users at w) ≡ (is_user j i users || ((i == at || false) && j == other))
user_set [] at other v w l e h i j = absurd (omega (arith, l))
user_set (u ∷ users) zero other v w l e h zero j = ap (is_place j) (h ∙ ap (λ (t : Vec ℕ). t.items ++ other ∷ []) e) ∙ place_last other j u.items
user_set (u ∷ users) zero other v w l e h (suc i) j =
    sym (ap (λ (b : Bool). is_user j i users || ((b || false) && j == other)) (ne_eqb (suc i) 0 (λ k. omega (arith, k))) ∙ or_false (is_user j i users))
user_set (u ∷ users) (suc at) other v w l e h zero j =
    sym (ap (λ (b : Bool). is_place j u.items || ((b || false) && j == other)) (ne_eqb 0 (suc at) (λ k. omega (arith, k))) ∙ or_false (is_place j u.items))
user_set (u ∷ users) (suc at) other v w l e h (suc i) j =
    user_set users at other v w (omega (arith, l)) e h i j ∙ ap (λ (b : Bool). is_user j i users || ((b || false) && j == other)) (sym (eq_suc i at))

pub user_joined : (users : List (Vec ℕ)) (at other : ℕ) (v w : Vec ℕ) → at < length users → v ≡ get_or users at v → w.items ≡ v.items ++ other ∷ []
    → JoinsUsers (at ∷ []) other users (set users at w)
user_joined users at other v w l e h = record {
  count = length-set users at w;
  users = λ i j k. user_set users at other v w l e h i j;
}

pub user_passed : (users : List (Vec ℕ)) (at other : ℕ) → length users ≤ at → JoinsUsers (at ∷ []) other users users
user_passed users at other l = record {
  count = refl;
  users = λ i j k. sym (ap (λ (b : Bool). is_user j i users || ((b || false) && j == other)) (ne_eqb i at (λ e. omega (arith, k, l, e))) ∙ or_false (is_user j i users));
}

pub none_joined : (users : List (Vec ℕ)) (other : ℕ) → JoinsUsers [] other users users
none_joined users other = record { count = refl; users = λ i j k. sym (or_false (is_user j i users)) }

any_split : (at : ℕ) (xs : List ℕ) (y : ℕ) → is_place at (xs ++ y ∷ []) ≡ (is_place at xs || is_place at (y ∷ []))
any_split at [] y = refl
any_split at (x ∷ xs) y = ap (λ b. at == x || b) (any_split at xs y) ∙ or_assoc (at == x) (is_place at xs) (is_place at (y ∷ [])) where
  or_assoc : (a b c : Bool) → (a || (b || c)) ≡ ((a || b) || c)
  or_assoc true b c = refl
  or_assoc false b c = refl

both_joined : (a b c d : Bool) → ((a || (b && d)) || (c && d)) ≡ (a || ((b || c) && d))
both_joined true b c d = refl
both_joined false true c true = refl
both_joined false true true false = refl
both_joined false true false false = refl
both_joined false false c d = refl

joined_last : (xs : List ℕ) (y other : ℕ) (a b c : List (Vec ℕ)) → JoinsUsers xs other a b → JoinsUsers (y ∷ []) other b c → JoinsUsers (xs ++ y ∷ []) other a c
joined_last xs y other a b c g h = record {
  count = h.count ∙ g.count;
  users = λ at j k.
      h.users at j (subst (λ n. at < n) (sym g.count) k)
      ∙ ap (λ u. u || (is_place at (y ∷ []) && j == other)) (g.users at j k)
      ∙ both_joined (is_user j at a) (is_place at xs) (is_place at (y ∷ [])) (j == other)
      ∙ ap (λ p. is_user j at a || (p && j == other)) (sym (any_split at xs y));
}

pub joined_more : (xs : List ℕ) (i other : ℕ) (y : ℕ) (a b c : List (Vec ℕ)) → i < length xs → y ≡ get_or xs i y → JoinsUsers (take i xs) other a b
    → JoinsUsers (y ∷ []) other b c → JoinsUsers (take (i + 1) xs) other a c
joined_more xs i other y a b c l e g h =
    let next : suc i ≡ i + 1 = omega arith in
    subst (λ k. JoinsUsers (take k xs) other a c) next
    (subst (λ (ks : List ℕ). JoinsUsers ks other a c) (sym (take-suc xs i y l ∙ ap (λ z. take i xs ++ z ∷ []) (sym e))) (joined_last (take i xs) y other a b c g h))

-- a row more is looked at
needs_far : (rows : List Placed) (at k : ℕ) → k ≤ at → row_needs (take k rows) at ≡ []
needs_far rows zero zero l = refl
needs_far rows (suc at) zero l = refl
needs_far [] at (suc k) l = refl
needs_far (r ∷ rows) zero (suc k) l = absurd (omega (arith, l))
needs_far (r ∷ rows) (suc at) (suc k) l = needs_far rows at k (omega (arith, l))

needs_near : (rows : List Placed) (at k : ℕ) → at < k → row_needs (take k rows) at ≡ row_needs rows at
needs_near rows at zero l = absurd (omega (arith, l))
needs_near [] at (suc k) l = refl
needs_near (r ∷ rows) zero (suc k) l = refl
needs_near (r ∷ rows) (suc at) (suc k) l = needs_near rows at k (omega (arith, l))

needs_got : (rows : List Placed) (k : ℕ) (r : Placed) → k < length rows → r ≡ get_or rows k r → row_needs rows k ≡ r.needs.items
needs_got [] k r l e = absurd (omega (arith, l))
needs_got (x ∷ rows) zero r l e = ap (λ (y : Placed). y.needs.items) (sym e)
needs_got (x ∷ rows) (suc k) r l e = needs_got rows k r (omega (arith, l)) e

-- the users of the first so many rows
pub record AreUsersTo (rows : List Placed) (k : ℕ) (users : List (Vec ℕ)) : Type 0 where
  pub count : length users ≡ length rows
  pub told : (at other : ℕ) → at < length rows → is_user other at users ≡ is_place at (row_needs (take k rows) other)

no_place : (at : ℕ) (ks : List ℕ) → ks ≡ [] → is_place at ks ≡ false
no_place at ks e = ap (is_place at) e

module _ (rows : List Placed) (k : ℕ) (r : Placed) (l : k < length rows) (e : r ≡ get_or rows k r) (a b : List (Vec ℕ)) (g : AreUsersTo rows k a) (h : JoinsUsers r.needs.items k a b) where
  and_true : (c : Bool) → (c && true) ≡ c
  and_true true = refl
  and_true false = refl

  and_false : (c : Bool) → (c && false) ≡ false
  and_false true = refl
  and_false false = refl

  told_by : (at other : ℕ) → at < length rows → (other ≡ k) ⊎ (other ≡ k → ⊥)
      → (is_place at (row_needs (take k rows) other) || (is_place at r.needs.items && other == k)) ≡ is_place at (row_needs (take (suc k) rows) other)
  told_by at other m (inl same) =
      ap (λ (c : Bool). c || (is_place at r.needs.items && other == k)) (no_place at (row_needs (take k rows) other) (needs_far rows other k (omega (arith, same))))
      ∙ ap (λ (c : Bool). is_place at r.needs.items && c) (eq-eqb other k same) ∙ and_true (is_place at r.needs.items)
      ∙ ap (is_place at) (sym (needs_near rows other (suc k) (omega (arith, same)) ∙ ap (row_needs rows) same ∙ needs_got rows k r l e))
  told_by at other m (inr not) =
      ap (λ (c : Bool). is_place at (row_needs (take k rows) other) || (is_place at r.needs.items && c)) (ne_eqb other k not)
      ∙ ap (λ (c : Bool). is_place at (row_needs (take k rows) other) || c) (and_false (is_place at r.needs.items))
      ∙ or_false (is_place at (row_needs (take k rows) other))
      ∙ ap (is_place at) (beside (cases_lt other k)) where
        beside : (other < k) ⊎ (k ≤ other) → row_needs (take k rows) other ≡ row_needs (take (suc k) rows) other
        beside (inl under) = needs_near rows other k under ∙ sym (needs_near rows other (suc k) (omega (arith, under)))
        beside (inr over) = needs_far rows other k over ∙ sym (needs_far rows other (suc k) (omega (arith, over, not)))

  users_next : AreUsersTo rows (suc k) b
  users_next = record {
    count = h.count ∙ g.count;
    told = λ at other m.
        h.users at other (subst (λ n. at < n) (sym g.count) m)
        ∙ ap (λ (c : Bool). c || (is_place at r.needs.items && other == k)) (g.told at other m) ∙ told_by at other m (cases_eq other k);
  }

pub users_more : (rows : List Placed) (k : ℕ) (r : Placed) (a b : List (Vec ℕ)) → k < length rows → r ≡ get_or rows k r → AreUsersTo rows k a
    → JoinsUsers r.needs.items k a b → AreUsersTo rows (k + 1) b
users_more rows k r a b l e g h =
    let next : suc k ≡ k + 1 = omega arith in
    subst (λ j. AreUsersTo rows j b) next (users_next rows k r l e a b g h)

pub users_first : (rows : List Placed) (users : List (Vec ℕ)) → length users ≡ length rows → ((at other : ℕ) → is_user other at users ≡ false) → AreUsersTo rows 0 users
users_first rows users c h = record { count = c; told = λ at other m. h at other ∙ sym (no_place at (row_needs (take 0 rows) other) (needs_far rows other 0 (omega arith))) }

all_taken : (rs : List Placed) (n : ℕ) → length rs ≤ n → take n rs ≡ rs
all_taken [] zero m = refl
all_taken [] (suc n) m = refl
all_taken (r ∷ rs) zero m = absurd (omega (arith, m))
all_taken (r ∷ rs) (suc n) m = ap (λ (xs : List Placed). r ∷ xs) (all_taken rs n (omega (arith, m)))

pub users_all : (rows : List Placed) (k : ℕ) (users : List (Vec ℕ)) → length rows ≤ k → AreUsersTo rows k users → AreUsers rows users
users_all rows k users l h = record {
  count = h.count;
  told = λ at other m. h.told at other m ∙ ap (λ (rs : List Placed). is_place at (row_needs rs other)) (all_taken rows k l);
}

-- what is mapped of one more
moved : {B : Type 0} (o : Option B) (ys zs : List B) → cons_option o (ys ++ zs) ≡ cons_option o ys ++ zs
moved None ys zs = refl
moved (Some b) ys zs = refl

filter_last : {A B : Type 0} (f : A → Option B) (xs : List A) (x : A) → filter_map f (xs ++ x ∷ []) ≡ filter_map f xs ++ cons_option (f x) []
filter_last f [] x = refl
filter_last f (y ∷ xs) x = ap (cons_option (f y)) (filter_last f xs x) ∙ moved (f y) (filter_map f xs) (cons_option (f x) [])

filter_next : {A B : Type 0} (f : A → Option B) (xs : List A) (i : ℕ) (x : A) → i < length xs → x ≡ get_or xs i x
    → filter_map f (take (i + 1) xs) ≡ filter_map f (take i xs) ++ cons_option (f x) []
filter_next f xs i x l e =
    let next : suc i ≡ i + 1 = omega arith in
    ap (λ k. filter_map f (take k xs)) (sym next) ∙ ap (filter_map f) (take-suc xs i x l ∙ ap (λ y. take i xs ++ y ∷ []) (sym e)) ∙ filter_last f (take i xs) x

pub filter_some : {A B : Type 0} (f : A → Option B) (xs : List A) (i : ℕ) (x : A) (y : B) → i < length xs → x ≡ get_or xs i x → f x ≡ Some y
    → filter_map f (take (i + 1) xs) ≡ filter_map f (take i xs) ++ y ∷ []
filter_some f xs i x y l e h = filter_next f xs i x l e ∙ ap (λ o. filter_map f (take i xs) ++ cons_option o []) h

pub filter_none : {A B : Type 0} (f : A → Option B) (xs : List A) (i : ℕ) (x : A) → i < length xs → x ≡ get_or xs i x → f x ≡ None
    → filter_map f (take (i + 1) xs) ≡ filter_map f (take i xs)
filter_none f xs i x l e h = filter_next f xs i x l e ∙ ap (λ o. filter_map f (take i xs) ++ cons_option o []) h ∙ append-nil (filter_map f (take i xs))
