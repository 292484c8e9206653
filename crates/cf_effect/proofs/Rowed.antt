-- What was laid out in passes are the rows of a source's resources.
use Rattle.std.proofs.Common.{◌≡◌, ℕ, zero, suc, ◌<◌, ◌≤◌, ◌||◌, ◌&&◌, Bool, true, false, List, [], ◌∷◌, ◌++◌, length, map, take, position, Option, Some, None, Result, Ok, Err, IfOk, option_map, refl, ap, sym, ◌∙◌, subst, arith, true≢false, inl, inr, ◌⊎◌}
use Rattle.std.specs.Prelude.{is_some}
use Rattle.std.specs.List.{AllByRecursion, cons_option, filter_map, list_all, slice_get}
use Rattle.std.specs.Option.{option_map_or}
use Rattle.std.specs.Str.{bytes_eq}
use Rattle.std.proofs.lemmas.Bool.{and_parts, cases_lt, ne_eqb}
use Rattle.std.proofs.lemmas.List.{append-nil}
use Rattle.std.proofs.lemmas.Option.{none-some, slice_get-map, slice_get_past, slice_get_within}
use Rattle.std.proofs.lemmas.Slice.Eq.{bytes_eq-Decides}
use Rattle.cf_tree.specs.Keys.{value_at}
use Rattle.cf_tree.specs.Lists.{is_among}
use Rattle.cf_desired.specs.ComeFirst.{ComeFirst}
use Rattle.cf_desired.specs.declared.shape.Terms.{Terms}
use Rattle.cf_desired.specs.Turns.{pathed}
use Rattle.cf_desired.specs.declared.shape.Shape.{Shape}
use Rattle.cf_desired.specs.Kept.{IsShape}
use Rattle.cf_desired.specs.Shape.{shape_of}
use Rattle.cf_desired.specs.Valued.{resources_in}
use Rattle.cf_desired.specs.Work.{Body, Member}
use Rattle.cf_desired.proofs.ComeFirst.{needs_first}
use Rattle.cf_effect.specs.Outset.{IsLaidBy}
use Rattle.cf_effect.specs.declared.layout.Layout.{Layout}
use Rattle.cf_effect.specs.declared.layout.Placed.{Placed}
use Rattle.cf_effect.specs.Layout.{AreRows, is_place, path_at, row_needs, users_at}
use Rattle.cf_effect.specs.Laying.{AreUsers, HasPlaces, are_terms_of, laid_row, row_told}
use Rattle.cf_effect.proofs.Closed.{any_found}
use Rattle.cf_effect.proofs.Places.{is_there, passes_at, position_mapped, position_within}

pub mapped : {A B C : Type 0} (f : B → C) (g : A → B) (xs : List A) → map f (map g xs) ≡ map (λ x. f (g x)) xs
mapped f g [] = refl
mapped f g (x ∷ xs) = ap (λ l. f (g x) ∷ l) (mapped f g xs)

-- the path of a row by the list of paths
path_as : (rows : List Placed) (k : ℕ) → path_at rows k ≡ option_map_or (λ (p : List ℕ). p) (slice_get (map (λ (r : Placed). r.path) rows) k) []
path_as [] k = refl
path_as (r ∷ rows) zero = refl
path_as (r ∷ rows) (suc k) = path_as rows k

abbrev first_of : List ℕ × Terms → List ℕ
first_of p = p.0

among_front : (q : List ℕ) (xs ys : List (List ℕ)) → is_among q xs ≡ true → is_among q (xs ++ ys) ≡ true
among_front q [] ys h = absurd (true≢false (sym h))
among_front q (x ∷ xs) ys h = by (bytes_eq q x) h (among_front q xs ys) where
  by : (b : Bool) → (b || is_among q xs) ≡ true → (is_among q xs ≡ true → is_among q (xs ++ ys) ≡ true) → (b || is_among q (xs ++ ys)) ≡ true
  by true g f = refl
  by false g f = f g

all_so : (f g : List ℕ → Bool) → ((q : List ℕ) → f q ≡ true → g q ≡ true) → (qs : List (List ℕ)) → list_all f qs ≡ true → list_all g qs ≡ true
all_so f g h [] a = refl
all_so f g h (q ∷ qs) a =
    let both = and_parts (f q) (list_all f qs) a in
    ap (λ b. b && list_all g qs) (h q both.0) ∙ all_so f g h qs both.1

append_assoc_one : (xs : List (List ℕ)) (y : List ℕ) (ys : List (List ℕ)) → (xs ++ y ∷ []) ++ ys ≡ xs ++ y ∷ ys
append_assoc_one [] y ys = refl
append_assoc_one (x ∷ xs) y ys = ap (λ l. x ∷ l) (append_assoc_one xs y ys)

-- what one needs comes before it
needs_before : (before : List (List ℕ)) (ms : List Member) (at : ℕ) (m : Member) → ComeFirst before ms → slice_get ms at ≡ Some m
    → list_all (λ q. is_among q (before ++ map (λ n. n.path) (take at ms))) m.needs ≡ true
needs_before before [] at m c h = absurd (none-some m h)
needs_before before (n ∷ ms) zero m c h =
    let same : n ≡ m = cc in
    ap (λ (p : List (List ℕ)). list_all (λ q. is_among q p) m.needs) (append-nil before)
    ∙ ap (λ (x : Member). list_all (λ q. is_among q before) x.needs) (sym same) ∙ c.0
needs_before before (n ∷ ms) (suc at) m c h =
    ap (λ (p : List (List ℕ)). list_all (λ q. is_among q p) m.needs) (sym (append_assoc_one before n.path (map (λ x. x.path) (take at ms))))
    ∙ needs_before (before ++ n.path ∷ []) ms at m c.1 h

module _ (l : Layout) (all : List (List ℕ × Terms)) (stands : HasPlaces all l.places) (told : map row_told l.rows.items ≡ map (laid_row l.places) all) where
  abbrev V : List ℕ → Option ℕ
  V q = value_at q l.places

  all_paths : map (λ r. r.path) l.rows.items ≡ map first_of all
  all_paths =
      sym (mapped (λ (t : List ℕ × List ℕ × List ℕ). t.0) row_told l.rows.items) ∙ ap (map (λ (t : List ℕ × List ℕ × List ℕ). t.0)) told
      ∙ mapped (λ (t : List ℕ × List ℕ × List ℕ). t.0) (laid_row l.places) all

  all_kinds : map (λ r. r.kind) l.rows.items ≡ map (λ p. p.1.kind) all
  all_kinds =
      sym (mapped (λ (t : List ℕ × List ℕ × List ℕ). t.1) row_told l.rows.items) ∙ ap (map (λ (t : List ℕ × List ℕ × List ℕ). t.1)) told
      ∙ mapped (λ (t : List ℕ × List ℕ × List ℕ). t.1) (laid_row l.places) all

  all_needs : map (λ r. map (path_at l.rows.items) r.needs.items) l.rows.items ≡ map (λ p. map (path_at l.rows.items) (filter_map V p.1.needs)) all
  all_needs =
      sym (mapped (λ (t : List ℕ × List ℕ × List ℕ). map (path_at l.rows.items) t.2) row_told l.rows.items)
      ∙ ap (map (λ (t : List ℕ × List ℕ × List ℕ). map (path_at l.rows.items) t.2)) told
      ∙ mapped (λ (t : List ℕ × List ℕ × List ℕ). map (path_at l.rows.items) t.2) (laid_row l.places) all

  -- a path that is told of has a place, where it stands
  has_place : (xs : List (List ℕ × Terms)) (q : List ℕ) → is_among q (map first_of xs) ≡ is_some (position (are_terms_of q) xs)
  has_place xs q =
      any_found (λ n. bytes_eq q n) (map first_of xs) ∙ sym (is_there (λ n. bytes_eq q n) (map first_of xs))
      ∙ ap is_some (sym (position_mapped first_of (λ n. bytes_eq q n) xs))

  stands_at : (q : List ℕ) (k : ℕ) → V q ≡ Some k → path_at l.rows.items k ≡ q
  stands_at q k h =
      let it = passes_at (are_terms_of q) all k (sym (stands q) ∙ h) in
      path_as l.rows.items k
      ∙ ap (λ (ps : List (List ℕ)). option_map_or (λ (p : List ℕ). p) (slice_get ps k) []) all_paths
      ∙ ap (λ (o : Option (List ℕ)). option_map_or (λ (p : List ℕ). p) o []) (slice_get-map first_of all k ∙ ap (option_map first_of) it.1)
      ∙ sym ((bytes_eq-Decides q it.0.0).0 it.2)

  same_needs : (qs : List (List ℕ)) → list_all (λ q. is_among q (map first_of all)) qs ≡ true → map (path_at l.rows.items) (filter_map V qs) ≡ qs
  same_needs [] h = refl
  same_needs (q ∷ qs) h =
      let both = and_parts (is_among q (map first_of all)) (list_all (λ p. is_among p (map first_of all)) qs) h in
      by (V q) refl (ap is_some (stands q) ∙ sym (has_place all q) ∙ both.0) (same_needs qs both.1) where
        by : (o : Option ℕ) → V q ≡ o → is_some (V q) ≡ true → map (path_at l.rows.items) (filter_map V qs) ≡ qs → map (path_at l.rows.items) (cons_option o (filter_map V qs)) ≡ q ∷ qs
        by None e s g = absurd (true≢false (sym s ∙ ap is_some e))
        by (Some k) e s g = ap (λ p. p ∷ map (path_at l.rows.items) (filter_map V qs)) (stands_at q k e) ∙ ap (λ ps. q ∷ ps) g

  all_below : (at : ℕ) (qs : List (List ℕ)) → list_all (λ q. is_among q (map first_of (take at all))) qs ≡ true → AllByRecursion (λ k. k < at) (filter_map V qs)
  all_below at [] h = tt
  all_below at (q ∷ qs) h =
      let both = and_parts (is_among q (map first_of (take at all))) (list_all (λ p. is_among p (map first_of (take at all))) qs) h in
      by (V q) refl (sym (has_place (take at all) q) ∙ both.0) (all_below at qs both.1) where
        by : (o : Option ℕ) → V q ≡ o → is_some (position (are_terms_of q) (take at all)) ≡ true → AllByRecursion (λ k. k < at) (filter_map V qs)
            → AllByRecursion (λ k. k < at) (cons_option o (filter_map V qs))
        by None e s g = g
        by (Some k) e s g = (position_within (are_terms_of q) all at k s (sym (stands q) ∙ e), g)

  module _ (ms : List Member) (is : all ≡ map pathed ms) (first : ComeFirst [] ms) where
    member_paths : (xs : List Member) → map first_of (map pathed xs) ≡ map (λ m. m.path) xs
    member_paths xs = mapped first_of pathed xs

    whole_paths : map first_of all ≡ map (λ m. m.path) ms
    whole_paths = ap (map first_of) is ∙ member_paths ms

    front_paths : (at : ℕ) → map first_of (take at all) ≡ map (λ m. m.path) (take at ms)
    front_paths at = ap (λ (xs : List (List ℕ × Terms)). map first_of (take at xs)) is ∙ by at ms where
      by : (n : ℕ) (xs : List Member) → map first_of (take n (map pathed xs)) ≡ map (λ m. m.path) (take n xs)
      by zero xs = refl
      by (suc n) [] = refl
      by (suc n) (x ∷ xs) = ap (λ ps. x.path ∷ ps) (by n xs)

    -- the needs of these have their places
    needs_along : (before : List (List ℕ)) (rest : List Member) → ComeFirst before rest
        → ((q : List ℕ) → is_among q (before ++ map (λ m. m.path) rest) ≡ true → is_among q (map first_of all) ≡ true)
        → map (λ m. map (path_at l.rows.items) (filter_map V m.needs)) rest ≡ map (λ m. m.needs) rest
    needs_along before [] c h = refl
    needs_along before (m ∷ rest) c h =
        ap (λ ps. ps ∷ map (λ n. map (path_at l.rows.items) (filter_map V n.needs)) rest)
        (same_needs m.needs (all_so (λ q. is_among q before) (λ q. is_among q (map first_of all)) (λ q g. h q (among_front q before (m.path ∷ map (λ n. n.path) rest) g)) m.needs c.0))
        ∙ ap (λ ps. m.needs ∷ ps)
        (needs_along (before ++ m.path ∷ []) rest c.1
        (λ q g. h q (sym (ap (is_among q) (append_assoc_one before m.path (map (λ n. n.path) rest))) ∙ g)))

    whole_needs : map (λ r. map (path_at l.rows.items) r.needs.items) l.rows.items ≡ map (λ m. m.needs) ms
    whole_needs =
        all_needs ∙ ap (map (λ p. map (path_at l.rows.items) (filter_map V p.1.needs))) is
        ∙ mapped (λ p. map (path_at l.rows.items) (filter_map V p.1.needs)) pathed ms
        ∙ needs_along [] ms first (λ q g. ap (is_among q) whole_paths ∙ g)

    needs_as : (at : ℕ) → row_needs l.rows.items at ≡ option_map_or (λ m. filter_map V m.needs) (slice_get ms at) []
    needs_as at =
        told_of (slice_get l.rows.items at)
        ∙ ap (λ o. option_map_or (λ (t : List ℕ × List ℕ × List ℕ). t.2) o [])
        (sym (slice_get-map row_told l.rows.items at) ∙ ap (λ ts. slice_get ts at) told ∙ ap (λ xs. slice_get (map (laid_row l.places) xs) at) is
        ∙ slice_get-map (laid_row l.places) (map pathed ms) at ∙ ap (option_map (laid_row l.places)) (slice_get-map pathed ms at))
        ∙ of_member (slice_get ms at) where
          told_of : (o : Option Placed) → option_map_or (λ (r : Placed). r.needs.items) o [] ≡ option_map_or (λ (t : List ℕ × List ℕ × List ℕ). t.2) (option_map row_told o) []
          told_of None = refl
          told_of (Some r) = refl

          of_member : (o : Option Member) → option_map_or (λ (t : List ℕ × List ℕ × List ℕ). t.2) (option_map (laid_row l.places) (option_map pathed o)) [] ≡ option_map_or (λ m. filter_map V m.needs) o []
          of_member None = refl
          of_member (Some m) = refl

    whole_earlier : (at : ℕ) → AllByRecursion (λ k. k < at) (row_needs l.rows.items at)
    whole_earlier at = subst (AllByRecursion (λ k. k < at)) (sym (needs_as at)) (by (slice_get ms at) refl) where
      by : (o : Option Member) → slice_get ms at ≡ o → AllByRecursion (λ k. k < at) (option_map_or (λ m. filter_map V m.needs) o [])
      by None e = tt
      by (Some m) e = all_below at m.needs (ap (λ (ps : List (List ℕ)). list_all (λ q. is_among q ps) m.needs) (front_paths at) ∙ needs_before [] ms at m first e)

    module _ (us : AreUsers l.rows.items l.users.items) where
      not_below : (at other : ℕ) (ks : List ℕ) → other ≤ at → AllByRecursion (λ k. k < other) ks → is_place at ks ≡ false
      not_below at other [] m h = refl
      not_below at other (k ∷ ks) m h = ap (λ b. b || is_place at ks) (ne_eqb at k (λ e. omega (arith, e, h.0, m))) ∙ not_below at other ks m h.1

      far : (at other : ℕ) → length l.rows.items ≤ at → is_place at (row_needs l.rows.items other) ≡ false
      far at other m = by (slice_get l.rows.items other) refl (whole_earlier other) where
        by : (o : Option Placed) → slice_get l.rows.items other ≡ o → AllByRecursion (λ k. k < other) (option_map_or (λ r. r.needs.items) o [])
            → is_place at (option_map_or (λ r. r.needs.items) o []) ≡ false
        by None e h = refl
        by (Some r) e h = let under = slice_get_within l.rows.items other r e in not_below at other r.needs.items (omega arith) h

      whole_users : (at other : ℕ) → is_place other (users_at l at) ≡ is_place at (row_needs l.rows.items other)
      whole_users at other = by (cases_lt at (length l.rows.items)) where
        by : (at < length l.rows.items) ⊎ (length l.rows.items ≤ at) → is_place other (users_at l at) ≡ is_place at (row_needs l.rows.items other)
        by (inl under) = us.told at other under
        by (inr over) =
            ap (λ o. is_place other (option_map_or (λ us. us.items) o [])) (slice_get_past l.users.items at (omega (arith, us.count, over)))
            ∙ sym (far at other over)

      rows_so : AreRows ms l
      rows_so = record {
        paths = all_paths ∙ whole_paths;
        kinds = all_kinds ∙ ap (map (λ p. p.1.kind)) is ∙ mapped (λ p. p.1.kind) pathed ms;
        needs = whole_needs;
        earlier = whole_earlier;
        users = whole_users;
        places = λ path.
            stands path ∙ position_mapped first_of (λ n. bytes_eq path n) all ∙ ap (position (λ n. bytes_eq path n)) (sym all_paths)
            ∙ sym (position_mapped (λ (r : Placed). r.path) (λ n. bytes_eq path n) l.rows.items);
      }

pub laid_rows : (l : Layout) (all : List (List ℕ × Terms)) → HasPlaces all l.places → map row_told l.rows.items ≡ map (laid_row l.places) all
    → AreUsers l.rows.items l.users.items → (ms : List Member) → all ≡ map pathed ms → ComeFirst [] ms → AreRows ms l
laid_rows l all stands told us ms is first = rows_so l all stands told ms is first us

pub laid_by : {E : Type 0} (shape : Shape) (all ts : List (List ℕ × Terms)) (r : Result Layout E) → all ≡ ts
    → ((b : Body) → IsShape shape b → ts ≡ map pathed (resources_in b))
    → IfOk r (λ l. (ms : List Member) → all ≡ map pathed ms → ComeFirst [] ms → AreRows ms l) → IfOk r (IsLaidBy shape)
laid_by shape all ts (Err e) is told h = tt
laid_by shape all ts (Ok l) is told h = λ source seen so. h (resources_in (shape_of source seen)) (is ∙ told (shape_of source seen) so) (needs_first source seen)
