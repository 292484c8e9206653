-- The names of a layout ascend, and each path has one.
use Rattle.std.proofs.Common.{◌≡◌, ℕ, zero, suc, ◌<◌, ◌≤◌, ◌||◌, inl, inr, Bool, true, false, List, [], ◌∷◌, Option, Some, None, length, map, get_or, position, refl, sym, ◌∙◌, ap, arith, cond, subst, true≢false}
use Rattle.std.specs.Prelude.{is_some}
use Rattle.std.specs.List.{list_any, slice_get}
use Rattle.std.specs.Option.{option_map, option_map_or}
use Rattle.std.specs.Cmp.{second_so}
use Rattle.std.specs.Cmp.Lexicographic.{slice_cmp, nat_list_cmp_total}
use Rattle.std.specs.Ordering.{nat_cmp, ordering_reverse}
use Rattle.std.specs.declared.cmp.Ordering.{Ordering}
use Rattle.std.specs.declared.cmp.Ordering.TheVariants.{Less, Equal, Greater}
use Rattle.std.specs.Str.{bytes_eq}
use Rattle.std.proofs.lemmas.Bool.{cases_lt}
use Rattle.std.proofs.lemmas.List.{map-id}
use Rattle.std.proofs.lemmas.Option.{get_or_from_slice_get, none-some, same_Some, slice_get-map, slice_get_within}
use Rattle.std.proofs.lemmas.Slice.Eq.{bytes_eq-Decides}
use Rattle.cf_tree.specs.Keys.{ascends, bytes_lt, value_at}
use Rattle.cf_tree.proofs.Halves.{as_is, rises}
use Rattle.cf_ready.specs.Ready.{AreAll}
use Rattle.cf_ready.proofs.Ranked.{same_or_not}
use Rattle.cf_desired.specs.Work.{Member}
use Rattle.cf_effect.specs.declared.layout.Layout.{Layout}
use Rattle.cf_effect.specs.declared.layout.Placed.{Placed}
use Rattle.cf_effect.specs.Ahead.{order_of}
use Rattle.cf_effect.specs.Following.{stands_at}
use Rattle.cf_effect.specs.Layout.{AreRows, is_row_of, source_members}
use Rattle.cf_effect.specs.World.{StackState}
use Rattle.cf_effect.proofs.Closed.{any_found}
use Rattle.cf_effect.proofs.Places.{is_there, passes_at}
use Rattle.cf_effect.proofs.Sought.{apart_in, one_place, row_at, same_bytes}

not_less : (k : List ℕ) → slice_cmp nat_cmp k k ≡ Less → ⊥
not_less k e = turned (sym e ∙ nat_list_cmp_total.antisymm k k ∙ ap ordering_reverse e) where
  turned : Less ≡ Greater → ⊥
  turned h = absurd cc

module _ {X : Type 0} where
  -- each name once
  apart : (ps : List (List ℕ × X)) → ascends ps ≡ true → (i j : ℕ) (p q : List ℕ × X) → slice_get ps i ≡ Some p → slice_get ps j ≡ Some q → p.0 ≡ q.0 → i < j → ⊥
  apart ps h i j p q g k e less =
      not_less q.0
      (ap (λ n. slice_cmp nat_cmp n q.0) (sym e)
      ∙ ap (λ (r : List ℕ × X). slice_cmp nat_cmp r.0 q.0) (sym (get_or_from_slice_get ps i p p g))
      ∙ ap (λ (r : List ℕ × X). slice_cmp nat_cmp (get_or ps i p).0 r.0) (sym (get_or_from_slice_get ps j q q k))
      ∙ rises as_is ps (ap (λ (qs : List (List ℕ × X)). ascends qs) (map-id ps) ∙ h) i j p q less (slice_get_within ps j q k))

  pub name_once : (ps : List (List ℕ × X)) → ascends ps ≡ true → (i j : ℕ) (p q : List ℕ × X) → slice_get ps i ≡ Some p → slice_get ps j ≡ Some q → p.0 ≡ q.0 → i ≡ j
  name_once ps h i j p q g k e = elim (same_or_not i j) [
    | inl same ↦ same
    | inr n ↦ elim (cases_lt i j) [
      | inl less ↦ absurd (apart ps h i j p q g k e less)
      | inr more ↦ absurd (apart ps h j i q p k g (sym e) (below i j more n))
    ]
  ] where
    below : (i j : ℕ) → j ≤ i → (i ≡ j → ⊥) → j < i
    below i j m n = elim (cases_lt j i) [ inl less ↦ less | inr over ↦ absurd (n (omega (arith, m, over))) ]

  others : (p : List ℕ × X) (ps : List (List ℕ × X)) → ascends (p ∷ ps) ≡ true → ascends ps ≡ true
  others p [] h = refl
  others p (q ∷ ps) h = second_so (bytes_lt p.0 q.0) _ h

  -- its value is what is under a name
  pub value_there : (ps : List (List ℕ × X)) → ascends ps ≡ true → (i : ℕ) (q : List ℕ × X) → slice_get ps i ≡ Some q → value_at q.0 ps ≡ Some q.1
  value_there [] h i q g = absurd (none-some q g)
  value_there (p ∷ ps) h zero q g =
      let same = same_Some p q g in
      ap (λ b. cond b (Some p.1) (value_at q.0 ps)) (same_bytes q.0 p.0 (ap (λ (r : List ℕ × X). r.0) (sym same))) ∙ ap (λ (r : List ℕ × X). Some r.1) same
  value_there (p ∷ ps) h (suc i) q g = by (bytes_eq q.0 p.0) refl (value_there ps (others p ps h) i q g) where
    by : (b : Bool) → bytes_eq q.0 p.0 ≡ b → value_at q.0 ps ≡ Some q.1 → cond b (Some p.1) (value_at q.0 ps) ≡ Some q.1
    by true e more = absurd (let z = name_once (p ∷ ps) h 0 (suc i) p q refl g (sym ((bytes_eq-Decides q.0 p.0).0 e)) in omega (arith, z))
    by false e more = more

  pub name_there : (k : List ℕ) (v : X) (ps : List (List ℕ × X)) → value_at k ps ≡ Some v → (i : ℕ) × (slice_get ps i ≡ Some (k, v))
  name_there k v [] e = absurd (none-some v e)
  name_there k v (p ∷ ps) e = by (bytes_eq k p.0) refl e (name_there k v ps) where
    by : (b : Bool) → bytes_eq k p.0 ≡ b → cond b (Some p.1) (value_at k ps) ≡ Some v → (value_at k ps ≡ Some v → (i : ℕ) × (slice_get ps i ≡ Some (k, v)))
        → (i : ℕ) × (slice_get (p ∷ ps) i ≡ Some (k, v))
    by true t g more = (0, ap Some (λ i. (sym ((bytes_eq-Decides k p.0).0 t) i, same_Some p.1 v g i)))
    by false t g more = let w = more g in (suc w.0, w.1)

-- the place of the path of a row
pub its_place : (s : StackState) (l : Layout) → AreRows (source_members s) l → (at : ℕ) (row : Placed) → slice_get l.rows.items at ≡ Some row → value_at row.path l.places ≡ Some at
its_place s l a at row h = a.places row.path ∙ by (position (is_row_of row.path) l.rows.items) refl where
  any_at : (rows : List Placed) (k : ℕ) → slice_get rows k ≡ Some row → list_any (is_row_of row.path) rows ≡ true
  any_at [] k e = absurd (none-some row e)
  any_at (x ∷ rows) zero e = ap (λ b. b || list_any (is_row_of row.path) rows) (same_bytes row.path x.path (ap (λ (y : Placed). y.path) (sym (same_Some x row e))))
  any_at (x ∷ rows) (suc k) e = or_so (is_row_of row.path x) (any_at rows k e) where
    or_so : (b : Bool) {c : Bool} → c ≡ true → (b || c) ≡ true
    or_so true e = refl
    or_so false e = e

  by : (o : Option ℕ) → position (is_row_of row.path) l.rows.items ≡ o → o ≡ Some at
  by None e =
      absurd (true≢false (sym (is_there (is_row_of row.path) l.rows.items ∙ sym (any_found (is_row_of row.path) l.rows.items) ∙ any_at l.rows.items at h) ∙ ap is_some e))
  by (Some k) e =
      let it = passes_at (is_row_of row.path) l.rows.items k e in
      let mine = row_at (source_members s) l a at row h in
      let other = row_at (source_members s) l a k it.0 it.1 in
      ap Some (one_place (source_members s) k at other.0 mine.0 (apart_in s) other.1 mine.1 (sym other.2 ∙ sym ((bytes_eq-Decides row.path it.0.path).0 it.2) ∙ mine.2))

-- a path that stands at a place is found there
pub near_found : (s : StackState) (l : Layout) (near : ℕ) (path : List ℕ) (so : Bool) → so ≡ stands_at l near path → so ≡ true → AreRows (source_members s) l
    → Some near ≡ value_at path l.places
near_found s l near path so told t a = by (slice_get l.rows.items near) refl (sym told ∙ t) where
  by : (o : Option Placed) → slice_get l.rows.items near ≡ o → option_map_or (λ (r : Placed). bytes_eq r.path path) o false ≡ true → Some near ≡ value_at path l.places
  by None e h = absurd (true≢false (sym h))
  by (Some row) e h = sym (ap (λ p. value_at p l.places) (sym ((bytes_eq-Decides row.path path).0 h)) ∙ its_place s l a near row e)

-- the places in the order of names are those of all rows
pub all_placed : (s : StackState) (l : Layout) → ascends l.places ≡ true → AreRows (source_members s) l → AreAll (length l.rows.items) (order_of l)
all_placed s l order a = record {
  within = λ rank at h. let it = row_named rank at h in slice_get_within l.rows.items at it.0 it.1;
  every = λ at less.
      let row = there_is l.rows.items at less in
      let name = name_there row.0.path at l.places (its_place s l a at row.0 row.1) in
      (name.0, slice_get-map (λ (p : List ℕ × ℕ). p.1) l.places name.0 ∙ ap (option_map (λ (p : List ℕ × ℕ). p.1)) name.1);
  once = λ i j at g h.
      let one = row_named i at g in
      let other = row_named j at h in
      let same : one.0 ≡ other.0 = same_Some one.0 other.0 (sym one.1 ∙ other.1) in
      name_once l.places order i j (named i at g).0 (named j at h).0 (named i at g).1 (named j at h).1
      (one.2 ∙ ap (λ (x : Placed). x.path) same ∙ sym other.2);
} where
  there_is : (rows : List Placed) (k : ℕ) → k < length rows → (row : Placed) × (slice_get rows k ≡ Some row)
  there_is [] k less = absurd (omega (arith, less))
  there_is (x ∷ rows) zero less = (x, refl)
  there_is (x ∷ rows) (suc k) less = there_is rows k (omega (arith, less))

  named : (i at : ℕ) → slice_get (order_of l) i ≡ Some at → (p : List ℕ × ℕ) × (slice_get l.places i ≡ Some p) × (p.1 ≡ at)
  named i at g = by (slice_get l.places i) refl where
    by : (o : Option (List ℕ × ℕ)) → slice_get l.places i ≡ o → (p : List ℕ × ℕ) × (slice_get l.places i ≡ Some p) × (p.1 ≡ at)
    by None e = absurd (none-some at (sym (ap (option_map (λ (p : List ℕ × ℕ). p.1)) e) ∙ sym (slice_get-map (λ (p : List ℕ × ℕ). p.1) l.places i) ∙ g))
    by (Some p) e =
        (p, e, same_Some p.1 at (sym (ap (option_map (λ (q : List ℕ × ℕ). q.1)) e) ∙ sym (slice_get-map (λ (q : List ℕ × ℕ). q.1) l.places i) ∙ g))

  row_named : (i at : ℕ) (g : slice_get (order_of l) i ≡ Some at) → (row : Placed) × (slice_get l.rows.items at ≡ Some row) × ((named i at g).0.0 ≡ row.path)
  row_named i at g =
      let p = named i at g in
      let found : value_at p.0.0 l.places ≡ Some at = value_there l.places order i p.0 p.1 ∙ ap Some p.2 in
      let it = passes_at (is_row_of p.0.0) l.rows.items at (sym (a.places p.0.0) ∙ found) in
      (it.0, it.1, (bytes_eq-Decides p.0.0 it.0.path).0 it.2)
