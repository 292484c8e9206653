-- The first create by name is the first that may begin: names ascend, and each has the place of its own path.
use Rattle.std.proofs.Common.{◌≡◌, ◌⊎◌, inl, inr, ℕ, zero, suc, ◌+◌, arith, Bool, true, false, ◌&&◌, ◌||◌, List, [], ◌∷◌, ◌++◌, Option, Some, None, cond, find, fold, refl, ap, sym, ◌∙◌, subst}
use Rattle.std.specs.Prelude.{option_and_then}
use Rattle.std.specs.Cmp.{first_so, second_so}
use Rattle.std.specs.List.{slice_get}
use Rattle.std.specs.Str.{bytes_eq}
use Rattle.std.proofs.lemmas.Option.{none-some}
use Rattle.cf_tree.specs.Datum.{Data}
use Rattle.cf_tree.specs.Keys.{ascends, ascends_from, bytes_lt, value_at}
use Rattle.cf_tree.specs.Lists.{In, here, there}
use Rattle.cf_entry.proofs.Codec.{some_is}
use Rattle.cf_effect.proofs.Places.{passes_at}
use Rattle.cf_effect.proofs.Sorted.{its_place}
use Rattle.cf_effect.specs.declared.findings.Findings.{Findings}
use Rattle.cf_effect.specs.declared.layout.Layout.{Layout}
use Rattle.cf_effect.specs.declared.layout.Placed.{Placed}
use Rattle.cf_effect.specs.Findings.{AreFindings}
use Rattle.cf_effect.specs.Layout.{AreRows, is_row_of, source_members}
use Rattle.cf_effect.specs.World.{StackState}
use Rattle.cf_plan.specs.Start.{Start}
use Rattle.cf_plan.proofs.Listed.{bytes_same, in_cons, same_bytes}
use Rattle.cf_plan.proofs.Members.{false_from, in_none, not_both}
use Rattle.cf_plan.proofs.Orders.{lower, not_below_itself}
use Rattle.cf_plan.proofs.RunLists.{is_found_in}
use Rattle.cf_next.specs.Chosen.{physical_id_of, precedes}
use Rattle.cf_next.specs.Creation.{create_at, creates_of_rows, creates_of, first_named, fitting_at, known_at, may_create, or_fitting}
use Rattle.cf_next.specs.First.{fits_one, is_start_before}
use Rattle.cf_next.proofs.Firsts.{IsFirst, starts_in_order}

-- names that ascend
pub above : {X : Type 0} (k : List ℕ) (ps : List (List ℕ × X)) → ascends_from k ps ≡ true → (q : List ℕ × X) → In q ps → bytes_lt k q.0 ≡ true
above k [] h q i = absurd (in_none i)
above k (p ∷ ps) h q i =
    let low = first_so (bytes_lt k p.0) (ascends_from p.0 ps) h in
    elim (in_cons i) [
      | inl s ↦ subst (λ r. bytes_lt k r.0 ≡ true) s low
      | inr j ↦ lower k p.0 q.0 low (above p.0 ps (second_so (bytes_lt k p.0) (ascends_from p.0 ps) h) q j)
    ]

pub others : {X : Type 0} (k : List ℕ) (ps : List (List ℕ × X)) → ascends_from k ps ≡ true → ascends ps ≡ true
others k [] h = refl
others k (p ∷ ps) h = second_so (bytes_lt k p.0) (ascends_from p.0 ps) h

-- each has its own value
value_of_name : {X : Type 0} (ps : List (List ℕ × X)) → ascends ps ≡ true → (q : List ℕ × X) → In q ps → value_at q.0 ps ≡ Some q.1
value_of_name [] h q i = absurd (in_none i)
value_of_name (p ∷ ps) h q i = elim (in_cons i) [
  | inl s ↦ subst (λ r. value_at r.0 (p ∷ ps) ≡ Some r.1) s (ap (λ b. cond b (Some p.1) (value_at p.0 ps)) (same_bytes p.0))
  | inr j ↦
      ap (λ b. cond b (Some p.1) (value_at q.0 ps))
      (false_from (bytes_eq q.0 p.0) (λ t. not_both (bytes_lt p.0 p.0) (subst (λ k. bytes_lt p.0 k ≡ true) (bytes_same q.0 p.0 t) (above p.0 ps h q j)) (not_below_itself p.0)))
      ∙ value_of_name ps (others p.0 ps h) q j
]

name_of_value : {X : Type 0} (k : List ℕ) (v : X) (ps : List (List ℕ × X)) → value_at k ps ≡ Some v → In (k, v) ps
name_of_value k v [] e = absurd (none-some v e)
name_of_value k v (p ∷ ps) e = by (bytes_eq k p.0) refl e (name_of_value k v ps)
  where
    by : (b : Bool) → bytes_eq k p.0 ≡ b → cond b (Some p.1) (value_at k ps) ≡ Some v → (value_at k ps ≡ Some v → In (k, v) ps) → In (k, v) (p ∷ ps)
    by true t g more = subst (λ q. In q (p ∷ ps)) (λ i. (sym (bytes_same k p.0 t) i, some_is p.1 v g i)) here
    by false t g more = there (more g)

-- what is found of some
pub found_in : {A : Type 0} (test : A → Bool) (xs : List A) (a : A) → find test xs ≡ Some a → In a xs × (test a ≡ true)
found_in test [] a e = absurd (none-some a e)
found_in test (x ∷ xs) a e = by (test x) refl e (found_in test xs a)
  where
    by : (b : Bool) → test x ≡ b → cond b (Some x) (find test xs) ≡ Some a → (find test xs ≡ Some a → In a xs × (test a ≡ true)) → In a (x ∷ xs) × (test a ≡ true)
    by true t g more = let s = some_is x a g in (subst (λ y. In y (x ∷ xs)) s here, subst (λ y. test y ≡ true) s t)
    by false t g more = let w = more g in (there w.0, w.1)

-- the creates of rows, by their places
module _ (s : StackState) (f : Findings) where
  in_more : {A : Type 0} (a : A) (xs ys : List A) → In a ys → In a (xs ++ ys)
  in_more a [] ys i = i
  in_more a (x ∷ xs) ys i = there (in_more a xs ys i)

  in_some : {A : Type 0} (a : A) (xs ys : List A) → In a xs → In a (xs ++ ys)
  in_some a [] ys i = absurd (in_none i)
  in_some a (x ∷ xs) ys i = elim (in_cons i) [
    | inl e ↦ subst (λ y. In y (x ∷ (xs ++ ys))) e here
    | inr j ↦ there (in_some a xs ys j)
  ]

  in_either : {A : Type 0} (a : A) (xs ys : List A) → In a (xs ++ ys) → In a xs ⊎ In a ys
  in_either a [] ys i = inr i
  in_either a (x ∷ xs) ys i = elim (in_cons i) [
    | inl e ↦ inl (subst (λ y. In y (x ∷ xs)) e here)
    | inr j ↦ elim (in_either a xs ys j) [ inl k ↦ inl (there k) | inr k ↦ inr k ]
  ]

  in_creates : (first at : ℕ) (rows : List Placed) (row : Placed) (a : Start) → slice_get rows at ≡ Some row → In a (creates_of s f (first + at) row)
      → In a (creates_of_rows s f first rows)
  in_creates first at [] row a e i = absurd (none-some row e)
  in_creates first zero (r ∷ rest) row a e i =
      in_some a (creates_of s f first r) (creates_of_rows s f (suc first) rest)
      (subst (λ q. In a (creates_of s f first q)) (sym (some_is r row e)) (subst (λ k. In a (creates_of s f k row)) (let n : first + 0 ≡ first = omega arith in n) i))
  in_creates first (suc at) (r ∷ rest) row a e i =
      in_more a (creates_of s f first r) (creates_of_rows s f (suc first) rest)
      (in_creates (suc first) at rest row a e (subst (λ k. In a (creates_of s f k row)) (let n : first + suc at ≡ suc first + at = omega arith in n) i))

  record CreatesAt (first : ℕ) (rows : List Placed) (a : Start) : Type 0 where
    pub at : ℕ
    pub row : Placed
    pub stands : slice_get rows at ≡ Some row
    pub is : In a (creates_of s f (first + at) row)

  creates_in : (first : ℕ) (rows : List Placed) (a : Start) → In a (creates_of_rows s f first rows) → CreatesAt first rows a
  creates_in first [] a i = absurd (in_none i)
  creates_in first (r ∷ rest) a i = elim (in_either a (creates_of s f first r) (creates_of_rows s f (suc first) rest) i) [
    | inl j ↦ record { at = 0; row = r; stands = refl; is = subst (λ k. In a (creates_of s f k r)) (let n : first ≡ first + 0 = omega arith in n) j }
    | inr j ↦
        let w = creates_in (suc first) rest a j in
        record { at = suc w.at; row = w.row; stands = w.stands; is = subst (λ k. In a (creates_of s f k w.row)) (let n : suc first + w.at ≡ first + suc w.at = omega arith in n) w.is }
  ]

  -- a create is of the path of its row, and names no physical id
  abbrev IsCreateOf : Placed → Start → Type 0
  IsCreateOf row a = (row.path ≡ a.path) × (physical_id_of a.request ≡ [])

  create_is : (at : ℕ) (row : Placed) (a : Start) → In a (creates_of s f at row) → IsCreateOf row a
  create_is at row a i = by (may_create s f at row) i
    where
      known : (o : Option (List (List ℕ × Data))) → In a (create_at row.path row.kind o) → IsCreateOf row a
      known None j = absurd (in_none j)
      known (Some ps) j = elim (in_cons j) [ inl e ↦ subst (IsCreateOf row) e (refl, refl) | inr k ↦ absurd (in_none k) ]

      by : (b : Bool) → In a (cond b (create_at row.path row.kind (known_at f at)) []) → IsCreateOf row a
      by true j = known (known_at f at) j
      by false j = absurd (in_none j)

module _ (homes : List (List ℕ × List ℕ)) (s : StackState) (l : Layout) (f : Findings) where
  -- the name of what is found, before which nothing is
  record IsNamed (names : List (List ℕ × ℕ)) (a : Start) : Type 0 where
    pub name : List ℕ × ℕ
    pub is : In name names
    pub found : fitting_at homes s l f name.1 ≡ Some a
    pub before : (q : List ℕ × ℕ) → In q names → bytes_lt q.0 name.0 ≡ true → fitting_at homes s l f q.1 ≡ None

  abbrev walk : Option Start → List (List ℕ × ℕ) → Option Start
  walk first names = fold (λ first named. or_fitting homes s l f first named.1) first names

  stays : (names : List (List ℕ × ℕ)) (a : Start) → walk (Some a) names ≡ Some a
  stays [] a = refl
  stays (p ∷ ps) a = stays ps a

  named : (names : List (List ℕ × ℕ)) (a : Start) → ascends names ≡ true → walk None names ≡ Some a → IsNamed names a
  named [] a h e = absurd (none-some a e)
  named (p ∷ ps) a h e = by (fitting_at homes s l f p.1) refl e (named ps a (others p.0 ps h))
    where
      by : (o : Option Start) → fitting_at homes s l f p.1 ≡ o → walk o ps ≡ Some a → (walk None ps ≡ Some a → IsNamed ps a) → IsNamed (p ∷ ps) a
      by (Some b) k g more = record {
        name = p;
        is = here;
        found = k ∙ sym (stays ps b) ∙ g;
        before = λ q i low. elim (in_cons i) [
          | inl same ↦ absurd (not_both (bytes_lt p.0 p.0) (subst (λ r. bytes_lt r.0 p.0 ≡ true) (sym same) low) (not_below_itself p.0))
          | inr j ↦ absurd (not_both (bytes_lt p.0 p.0) (lower p.0 q.0 p.0 (above p.0 ps h q j) low) (not_below_itself p.0))
        ];
      }
      by None k g more =
          let w = more g in record {
            name = w.name;
            is = there w.is;
            found = w.found;
            before = λ q i low. elim (in_cons i) [
              | inl same ↦ subst (λ r. fitting_at homes s l f r.1 ≡ None) same k
              | inr j ↦ w.before q j low
            ];
          }

  record FitsAt (at : ℕ) (a : Start) : Type 0 where
    pub row : Placed
    pub stands : slice_get l.rows.items at ≡ Some row
    pub is : In a (creates_of s f at row)
    pub fits : fits_one homes a ≡ true

  fits_at : (at : ℕ) (a : Start) → fitting_at homes s l f at ≡ Some a → FitsAt at a
  fits_at at a e = by (slice_get l.rows.items at) refl e
    where
      by : (o : Option Placed) → slice_get l.rows.items at ≡ o → option_and_then (λ row. find (fits_one homes) (creates_of s f at row)) o ≡ Some a → FitsAt at a
      by None t g = absurd (none-some a g)
      by (Some row) t g =
          let w = found_in (fits_one homes) (creates_of s f at row) a g in record { row = row; stands = t; is = w.0; fits = w.1 }

  pub first_by_name : (ascending : ascends l.places ≡ true) → AreRows (source_members s) l → AreFindings s f → (a : Start)
      → first_named homes s l f l.places ≡ Some a
      → IsFirst is_start_before starts_in_order (fits_one homes) (λ b. In b (creates_of_rows s f 0 l.rows.items)) (Some a)
  first_by_name ascending rows are a e = (in_creates s f 0 w.name.1 l.rows.items it.row a it.stands (subst (λ k. In a (creates_of s f k it.row)) (let n : w.name.1 ≡ 0 + w.name.1 = omega arith in n) it.is), it.fits, least)
    where
      w : IsNamed l.places a
      w = named l.places a ascending e

      it : FitsAt w.name.1 a
      it = fits_at w.name.1 a w.found

      -- the name is the path of the row that has its place
      its_name : w.name.0 ≡ a.path
      its_name =
          let at = passes_at (is_row_of w.name.0) l.rows.items w.name.1 (sym (rows.places w.name.0) ∙ value_of_name l.places ascending w.name w.is) in
          bytes_same w.name.0 at.0.path at.2 ∙ ap (λ (r : Placed). r.path) (some_is at.0 it.row (sym at.1 ∙ it.stands))
          ∙ (create_is s f w.name.1 it.row a it.is).0

      least : (b : Start) → In b (creates_of_rows s f 0 l.rows.items) → fits_one homes b ≡ true → is_start_before b a ≡ false
      least b i fits = false_from (is_start_before b a) (λ t. absurd (none-some there_is.0 (sym (nothing t) ∙ there_is.1)))
        where
          c : CreatesAt s f 0 l.rows.items b
          c = creates_in s f 0 l.rows.items b i

          mine : In b (creates_of s f c.at c.row)
          mine = subst (λ k. In b (creates_of s f k c.row)) (let n : 0 + c.at ≡ c.at = omega arith in n) c.is

          own : IsCreateOf s f c.row b
          own = create_is s f c.at c.row b mine

          there_is : (y : Start) × (fitting_at homes s l f c.at ≡ Some y)
          there_is =
              let k = is_found_in (fits_one homes) (creates_of s f c.at c.row) b mine fits in
              (k.0, ap (option_and_then (λ row. find (fits_one homes) (creates_of s f c.at row))) c.stands ∙ k.1)

          lower_path : is_start_before b a ≡ true → bytes_lt c.row.path w.name.0 ≡ true
          lower_path t =
              subst (λ k. bytes_lt c.row.path k ≡ true) (sym its_name) (subst (λ k. bytes_lt k a.path ≡ true) (sym own.0)
              (by (bytes_lt b.path a.path) (bytes_eq b.path a.path)
              (subst (λ k. precedes (b.path, []) (a.path, k) ≡ true) (create_is s f w.name.1 it.row a it.is).1
              (subst (λ k. precedes (b.path, k) (a.path, physical_id_of a.request) ≡ true) own.1 t))))
            where
              by : (x y : Bool) → (x || (y && false)) ≡ true → x ≡ true
              by true y g = refl
              by false true g = g
              by false false g = g

          nothing : is_start_before b a ≡ true → fitting_at homes s l f c.at ≡ None
          nothing t =
              w.before (c.row.path, c.at) (name_of_value c.row.path c.at l.places (its_place s l rows c.at c.row c.stands)) (lower_path t)
