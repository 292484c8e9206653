-- The row of a path that the template doesn't want: it tells a removal where a resource is held there, and else there is none.
use Rattle.std.proofs.Common.{◌≡◌, ◌∙◌, inl, inr, ◌++◌, ◌∷◌, ℕ, Bool, true, false, cond, not, ◌&&◌, List, [], Option, Some, None, filter, find, fold, map, refl, sym, ap, true≢false}
use Rattle.std.specs.Prelude.{is_some}
use Rattle.std.specs.Option.{option_map_or}
use Rattle.std.specs.Str.{bytes_eq}
use Rattle.cf_tree.specs.Keys.{put, value_at}
use Rattle.cf_tree.specs.Lists.{In, is_among}
use Rattle.cf_tree.specs.declared.row.Action.TheVariants as action
use Rattle.cf_tree.specs.declared.row.Detail.{Detail}
use Rattle.cf_tree.specs.declared.row.Row.{Row}
use Rattle.cf_tree.specs.declared.source.Source.{Source}
use Rattle.cf_schema.specs.declared.described.Schema.{Schema}
use Rattle.cf_change.specs.Changes.{HeldAt, RowsFound, changes_of, details_for, found_next, found_of, found_with, held_seen, is_empty, is_other_kind, is_row_before, removed_row, removed_rows, replacement_of, resource_held, row_for, row_list, seen_after}
use Rattle.cf_desired.specs.Plan.{props_at, wanted_of}
use Rattle.cf_desired.specs.Seeing.{Seen, SeenAt}
use Rattle.cf_desired.specs.Shape.{shape_of}
use Rattle.cf_desired.specs.Valued.{resources_in}
use Rattle.cf_desired.specs.Work.{Member, Shape}
use Rattle.cf_desired.specs.declared.wanted.Evaluated.{Evaluated}
use Rattle.cf_desired.specs.declared.wanted.Wanted.{Wanted}
use Rattle.cf_desired.proofs.Puts.{value_put}
use Rattle.cf_plan.proofs.ChangedLists.{all_inserted}
use Rattle.cf_plan.proofs.CreatedRight.{first_not}
use Rattle.cf_core.proofs.Lemmas.{bytes_same, either_way, found_one, in_back, in_changed, in_either, in_filter, in_kept, in_map, in_none, in_one, is_found_in, second_not}

abbrev pub paths_of : List Member → List (List ℕ)
paths_of ms = map (λ m. m.path) ms

-- No row of the path is found, and nothing is seen there.
record IsPassed (path : List ℕ) (f : RowsFound) : Type 0 where
  rows : (r : Row) → In r f.rows → bytes_eq path r.path ≡ false
  seen : value_at path f.seen ≡ None

-- a row is of the path that it was made for
one_of : (b : Bool) (r t : Row) → In r (row_list (cond b None (Some t))) → r ≡ t
one_of true r t i = absurd (in_none i)
one_of false r t i = in_one r t i

row_path : (schemas : List Schema) (o : Option HeldAt) (w : Wanted) (r : Row) → In r (row_list (row_for schemas o w)) → r.path ≡ w.path
row_path schemas None w r i =
    ap (λ (z : Row). z.path)
    (in_one r (record { action = action.Add; path = w.path; kind = w.kind; replacement = None; unsure = false; details = [] }) i)
row_path schemas (Some h) w r i =
    let ds : List Detail = details_for schemas h w in
    ap (λ (z : Row). z.path)
    (one_of (is_empty ds && not h.unsure) r
    (record { action = action.Modify; path = w.path; kind = w.kind; replacement = Some (replacement_of ds); unsure = h.unsure; details = ds }) i)

module _ (path : List ℕ) (schemas : List Schema) (held : List HeldAt) where
  none_put : (other : List ℕ) (v : SeenAt) (seen : Seen) → bytes_eq path other ≡ false → value_at path seen ≡ None → value_at path (put other v seen) ≡ None
  none_put other v seen e none = value_put path other v seen ∙ ap (λ b. cond b (Some v) (value_at path seen)) e ∙ none

  -- what is found at another path
  passed_with : (f : RowsFound) (w : Wanted) → bytes_eq path w.path ≡ false → IsPassed path f → IsPassed path (found_with schemas held f w)
  passed_with f w other p =
      either_way (IsPassed path) (is_other_kind (resource_held w.path held) w)
      (record f { clash = f.clash ++ w.path ∷ []; seen = put w.path (seen_after (resource_held w.path held) None) f.seen })
      (record f { rows = f.rows ++ row_list row; seen = put w.path (seen_after (resource_held w.path held) row) f.seen })
      (record { rows = p.rows; seen = none_put w.path _ f.seen other p.seen })
      (record {
        rows = λ r i. elim (in_either r f.rows (row_list row) i) [
          | inl j ↦ p.rows r j
          | inr j ↦ ap (bytes_eq path) (row_path schemas (resource_held w.path held) w r j) ∙ other
        ];
        seen = none_put w.path _ f.seen other p.seen;
      })
    where
      row : Option Row
      row = row_for schemas (resource_held w.path held) w

  module _ (source : Source) (shape : Shape) where
    passed_next : (f : RowsFound) (m : Member) → bytes_eq path m.path ≡ false → IsPassed path f → IsPassed path (found_next schemas held source shape f m)
    passed_next f m other p = by (props_at source shape f.seen m.path) where
      by : (o : Option Evaluated) → IsPassed path (option_map_or (λ v. found_with schemas held f (wanted_of (m, v))) o f)
      by None = p
      by (Some v) = passed_with f (wanted_of (m, v)) other p

    passed_along : (ms : List Member) (f : RowsFound) → is_among path (paths_of ms) ≡ false → IsPassed path f → IsPassed path (fold (found_next schemas held source shape) f ms)
    passed_along [] f none p = p
    passed_along (m ∷ ms) f none p =
        passed_along ms (found_next schemas held source shape f m) (second_not (bytes_eq path m.path) (is_among path (paths_of ms)) none)
        (passed_next f m (first_not (bytes_eq path m.path) (is_among path (paths_of ms)) none) p)

-- a row of what is removed where a resource is held, and else none
abbrev pub IsRemoved : Option HeldAt → Option Row → Type 0
IsRemoved None None = Unit {0}
IsRemoved (Some h) (Some r) = r.action ≡ action.Remove
IsRemoved _ _ = ⊥

-- what is held and not seen
abbrev is_unseen : Seen → HeldAt → Bool
is_unseen seen h = not (is_some (value_at h.path seen))

module _ (schemas : List Schema) (held : List HeldAt) (source : Source) (path : List ℕ)
    (unwanted : is_among path (paths_of (resources_in (shape_of source (held_seen held)))) ≡ false) where
  abbrev f : RowsFound
  f = found_of schemas held source

  abbrev all : List Row
  all = f.rows ++ removed_rows held f.seen

  abbrev rows : List Row
  rows = (changes_of schemas held [] [] source).rows

  passed : IsPassed path f
  passed =
      passed_along path schemas held source (shape_of source (held_seen held)) (resources_in (shape_of source (held_seen held))) (record { rows = []; seen = []; clash = [] }) unwanted
      (record { rows = λ r i. absurd (in_none i); seen = refl })

  -- a row of the path is that of what is removed
  removes : (r : Row) → In r rows → bytes_eq path r.path ≡ true → (h : HeldAt) × In h held × (removed_row h ≡ r)
  removes r i at = elim ((all_inserted is_row_before r all []).0 i) [
    | inl j ↦ absurd (in_none j)
    | inr j ↦ elim (in_either r f.rows (removed_rows held f.seen) j) [
      | inl k ↦ absurd (true≢false (sym at ∙ passed.rows r k))
      | inr k ↦ let m = in_changed removed_row (filter (is_unseen f.seen) held) r k in (m.one, (in_filter (is_unseen f.seen) held m.one m.of_list).0, m.same)
    ]
  ]

  removed_in : (h : HeldAt) → In h held → value_at h.path f.seen ≡ None → In (removed_row h) rows
  removed_in h i none =
      (all_inserted is_row_before (removed_row h) all []).1
      (inr (in_back (removed_row h) f.rows (removed_rows held f.seen) (in_map removed_row h (filter (is_unseen f.seen) held) (in_kept (is_unseen f.seen) held h i (ap (λ o. not (is_some o)) none)))))

  abbrev is_row : Row → Bool
  is_row r = bytes_eq path r.path

  abbrev is_held : HeldAt → Bool
  is_held h = bytes_eq path h.path

  pub removed_row_at : IsRemoved (resource_held path held) (find is_row rows)
  removed_row_at = by (resource_held path held) (find is_row rows) refl refl where
    by : (o : Option HeldAt) (p : Option Row) → resource_held path held ≡ o → find is_row rows ≡ p → IsRemoved o p
    by None None e g = tt
    by None (Some r) e g =
        let one = found_one is_row rows r g in
        let (h, i, is) = removes r one.0 one.1 in
        let there = is_found_in is_held held h i (ap is_row is ∙ one.1) in
        let no : None ≡ Some there.0 = sym e ∙ there.1 in
        let never : ⊥ = cc in absurd never
    by (Some h) None e g =
        let one = found_one is_held held h e in
        let unseen : value_at h.path f.seen ≡ None = ap (λ p. value_at p f.seen) (sym (bytes_same path h.path one.1)) ∙ passed.seen in
        let there = is_found_in is_row rows (removed_row h) (removed_in h one.0 unseen) one.1 in
        let no : None ≡ Some there.0 = sym g ∙ there.1 in
        let never : ⊥ = cc in absurd never
    by (Some h) (Some r) e g =
        let one = found_one is_row rows r g in
        let (k, i, is) = removes r one.0 one.1 in ap (λ (z : Row). z.action) (sym is)
