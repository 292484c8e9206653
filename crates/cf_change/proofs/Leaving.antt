-- What is seen with the rows of a change set is what they leave of what is held.
use Rattle.std.proofs.Common.{◌≡◌, ◌∙◌, ℕ, List, [], ◌∷◌, ◌++◌, Bool, true, false, not, ◌&&◌, ◌||◌, Option, Some, None, filter, fold, map, option_map, refl, sym, ap, subst, true≢false}
use Rattle.std.specs.Prelude.{⊤, cond, is_some, option_and_then}
use Rattle.std.specs.Cmp.{first_so, second_so}
use Rattle.std.specs.List.{list_any}
use Rattle.std.specs.Option.{option_map_or}
use Rattle.std.specs.Str.{bytes_eq}
use Rattle.std.proofs.lemmas.List.Folds.{list_any-append}
use Rattle.std.proofs.lemmas.Slice.Eq.{bytes_eq-Decides}
use Rattle.cf_tree.specs.Datum.{Data}
use Rattle.cf_tree.specs.Keys.{value_at, put}
use Rattle.cf_tree.specs.Lists.{insert_by, is_among}
use Rattle.cf_tree.specs.Named.{all_differ}
use Rattle.cf_tree.specs.declared.row.Action.TheVariants as action
use Rattle.cf_tree.specs.declared.row.Detail.{Detail}
use Rattle.cf_tree.specs.declared.row.Row.{Row}
use Rattle.cf_tree.specs.declared.source.Source.{Source}
use Rattle.cf_eval.specs.Knows.{StaysKnown}
use Rattle.cf_schema.specs.declared.described.Schema.{Schema}
use Rattle.cf_desired.specs.Seeing.{SeenAt}
use Rattle.cf_desired.specs.declared.wanted.Evaluated.{Evaluated}
use Rattle.cf_desired.specs.declared.wanted.Wanted.{Wanted}
use Rattle.cf_desired.specs.Plan.{at_path, props_at, wanted_of}
use Rattle.cf_desired.specs.Seeing.{Seen}
use Rattle.cf_desired.specs.Shape.{given_root, shape_of}
use Rattle.cf_desired.specs.ShapeStays.{IsClear, hidden_of}
use Rattle.cf_desired.specs.Stays.{SeesMore, attrs_seen, id_seen}
use Rattle.cf_desired.specs.Valued.{resources_in, valued_in}
use Rattle.cf_desired.specs.Work.{Member, Shape}
use Rattle.cf_desired.proofs.Apart.{members_apart}
use Rattle.cf_desired.proofs.Flawless.{flawless_clear}
use Rattle.cf_desired.proofs.Hiding.{hiding_serves}
use Rattle.cf_desired.proofs.Puts.{kept_self, value_put}
use Rattle.cf_desired.proofs.ShapeStays.{shape_stays}
use Rattle.cf_desired.proofs.Termed.{Valued, member_of, members_in}
use Rattle.cf_change.specs.Changes.{RowsFound, HeldAt, details_for, found_next, found_of, found_with, held_seen, is_empty, is_other_kind, is_property, is_row_before, keeps_id, modify_row, removed_row, removed_rows, replacement_of, resource_held, row_for, row_list, seen_after, seen_held}
use Rattle.cf_change.specs.Hidden.{ChangesHide, ShapeStaysForward, hides_attrs, hides_id, left_seen, row_hides_attrs, row_hides_id}
use Rattle.cf_change.proofs.Shown.{held_there}

-- a member that joins a list in its order passes a test as before
either_order : (a b c : Bool) → (a || (b || c)) ≡ (b || (a || c))
either_order true true c = refl
either_order true false c = refl
either_order false true c = refl
either_order false false c = refl

either_last : (a b : Bool) → (a || b) ≡ (b || a)
either_last true true = refl
either_last true false = refl
either_last false true = refl
either_last false false = refl

either_assoc : (a b c : Bool) → ((a || b) || c) ≡ (a || (b || c))
either_assoc true b c = refl
either_assoc false b c = refl

module _ {A : Type 0} (test : A → Bool) (before : A → A → Bool) where
  any_joined : (xs : List A) (a : A) → list_any test (insert_by before xs a) ≡ (test a || list_any test xs)
  any_joined [] a = refl
  any_joined (x ∷ xs) a = either (before x a) (any_joined xs a) where
    either : (b : Bool) → list_any test (insert_by before xs a) ≡ (test a || list_any test xs) → list_any test (cond b (x ∷ insert_by before xs a) (a ∷ x ∷ xs)) ≡ (test a || (test x || list_any test xs))
    either true ih = ap (λ b. test x || b) ih ∙ either_order (test x) (test a) (list_any test xs)
    either false ih = refl

  any_sorted : (ys xs : List A) → list_any test (fold (insert_by before) ys xs) ≡ (list_any test ys || list_any test xs)
  any_sorted ys [] = sym (either_last (list_any test ys) false)
  any_sorted ys (x ∷ xs) =
      any_sorted (insert_by before ys x) xs
      ∙ ap (λ b. b || list_any test xs) (any_joined ys x ∙ either_last (test x) (list_any test ys))
      ∙ either_assoc (list_any test ys) (test x) (list_any test xs)

-- rows of what is not wanted any more hide nothing
no_and : (a : Bool) → (a && false) ≡ false
no_and true = refl
no_and false = refl

none_removed_id : (path : List ℕ) (hs : List HeldAt) → hides_id (map removed_row hs) path ≡ false
none_removed_id path [] = refl
none_removed_id path (h ∷ hs) = ap (λ b. b || hides_id (map removed_row hs) path) (no_and (bytes_eq path h.path)) ∙ none_removed_id path hs

none_removed_attrs : (path : List ℕ) (hs : List HeldAt) → hides_attrs (map removed_row hs) path ≡ false
none_removed_attrs path [] = refl
none_removed_attrs path (h ∷ hs) = ap (λ b. b || hides_attrs (map removed_row hs) path) (no_and (bytes_eq path h.path)) ∙ none_removed_attrs path hs

abbrev all_rows : List Row → List HeldAt → Seen → List Row
all_rows rows held seen = fold (insert_by is_row_before) [] (rows ++ removed_rows held seen)

same_hidden_id : (rows : List Row) (held : List HeldAt) (seen : Seen) (path : List ℕ) → hides_id (all_rows rows held seen) path ≡ hides_id rows path
same_hidden_id rows held seen path =
    any_sorted (λ r. bytes_eq path r.path && row_hides_id r) is_row_before [] (rows ++ removed_rows held seen)
    ∙ list_any-append (λ r. bytes_eq path r.path && row_hides_id r) rows (removed_rows held seen)
    ∙ ap (λ b. hides_id rows path || b) (none_removed_id path (filter (λ h. not (is_some (value_at h.path seen))) held)) ∙ either_last (hides_id rows path) false

same_hidden_attrs : (rows : List Row) (held : List HeldAt) (seen : Seen) (path : List ℕ) → hides_attrs (all_rows rows held seen) path ≡ hides_attrs rows path
same_hidden_attrs rows held seen path =
    any_sorted (λ r. bytes_eq path r.path && row_hides_attrs r) is_row_before [] (rows ++ removed_rows held seen)
    ∙ list_any-append (λ r. bytes_eq path r.path && row_hides_attrs r) rows (removed_rows held seen)
    ∙ ap (λ b. hides_attrs rows path || b) (none_removed_attrs path (filter (λ h. not (is_some (value_at h.path seen))) held)) ∙ either_last (hides_attrs rows path) false

-- each resource of a shape has properties, or a fault of them
found_there : (path : List ℕ) (rs : List Valued) → is_among path (map (λ m. m.path) (map member_of rs)) ≡ true → is_some (option_map (λ r. r.1) (at_path path rs)) ≡ true
found_there path [] h = absurd (true≢false (sym h))
found_there path (r ∷ rs) h = either (bytes_eq path r.0.path) h (found_there path rs) where
  either : (b : Bool) → (b || is_among path (map (λ m. m.path) (map member_of rs))) ≡ true
      → (is_among path (map (λ m. m.path) (map member_of rs)) ≡ true → is_some (option_map (λ x. x.1) (at_path path rs)) ≡ true)
      → is_some (option_map (λ x. x.1) (cond b (Some r) (at_path path rs))) ≡ true
  either true g ih = refl
  either false g ih = ih g

props_there : (source : Source) (shape : Shape) (seen : Seen) (path : List ℕ) → is_among path (map (λ m. m.path) (resources_in shape)) ≡ true → is_some (props_at source shape seen path) ≡ true
props_there source shape seen path h =
    found_there path (valued_in source seen (given_root source) shape)
    (subst (λ (ms : List Member). is_among path (map (λ m. m.path) ms) ≡ true) (sym (members_in source seen (given_root source) shape)) h)

-- of a path: what is seen, and what rows hide
pub record IsFresh (path : List ℕ) (f : RowsFound) : Type 0 where
  pub seen : value_at path f.seen ≡ None
  pub id : hides_id f.rows path ≡ false
  pub attrs : hides_attrs f.rows path ≡ false

abbrev held_id : Option HeldAt → Option (List ℕ)
held_id o = option_map (λ h. h.physical) o

abbrev held_attrs : Option HeldAt → Option (List (List ℕ × Data))
held_attrs o = option_map (λ h. h.attrs) o

pub record IsLeft (held : List HeldAt) (path : List ℕ) (f : RowsFound) : Type 0 where
  pub id : id_seen path f.seen ≡ cond (hides_id f.rows path) None (held_id (resource_held path held))
  pub attrs : attrs_seen path f.seen ≡ cond (hides_attrs f.rows path) None (held_attrs (resource_held path held))

-- a row of another path hides nothing here
pub record IsUntouched (path : List ℕ) (f g : RowsFound) : Type 0 where
  pub seen : value_at path g.seen ≡ value_at path f.seen
  pub id : hides_id g.rows path ≡ hides_id f.rows path
  pub attrs : hides_attrs g.rows path ≡ hides_attrs f.rows path

untouched_on : (path : List ℕ) (f g h : RowsFound) → IsUntouched path f g → IsUntouched path g h → IsUntouched path f h
untouched_on path f g h x y = record { seen = y.seen ∙ x.seen; id = y.id ∙ x.id; attrs = y.attrs ∙ x.attrs }

same_path : (path : List ℕ) → bytes_eq path path ≡ true
same_path path = (bytes_eq-Decides path path).1 refl

-- the row of a path, and what it leaves
abbrev RowOf : List ℕ → Option Row → Type 0
RowOf path None = ⊤
RowOf path (Some r) = r.path ≡ path

abbrev modified : HeldAt → Wanted → List Detail → Row
modified h w ds = record { action = action.Modify; path = w.path; kind = w.kind; replacement = Some (replacement_of ds); unsure = h.unsure; details = ds }

modify_of : (h : HeldAt) (w : Wanted) (ds : List Detail) → RowOf w.path (modify_row h w ds)
modify_of h w ds = either (is_empty ds && not h.unsure) where
  either : (b : Bool) → RowOf w.path (cond b None (Some (modified h w ds)))
  either true = tt
  either false = refl

row_of : (schemas : List Schema) (o : Option HeldAt) (w : Wanted) → RowOf w.path (row_for schemas o w)
row_of schemas None w = refl
row_of schemas (Some h) w = modify_of h w (details_for schemas h w)

other_id : (path at : List ℕ) (row : Option Row) → RowOf at row → bytes_eq path at ≡ false → hides_id (row_list row) path ≡ false
other_id path at None h e = refl
other_id path at (Some r) h e = ap (λ p. bytes_eq path p && row_hides_id r || false) h ∙ ap (λ b. b && row_hides_id r || false) e

other_attrs : (path at : List ℕ) (row : Option Row) → RowOf at row → bytes_eq path at ≡ false → hides_attrs (row_list row) path ≡ false
other_attrs path at None h e = refl
other_attrs path at (Some r) h e = ap (λ p. bytes_eq path p && row_hides_attrs r || false) h ∙ ap (λ b. b && row_hides_attrs r || false) e

hide_kept : {A : Type 0} (b : Bool) (a : A) → cond b (Some a) None ≡ cond (not b || false) None (Some a)
hide_kept true a = refl
hide_kept false a = refl

hide_changed : {A : Type 0} (b : Bool) (a : A) → cond b None (Some a) ≡ cond (b || false) None (Some a)
hide_changed true a = refl
hide_changed false a = refl

-- what a row leaves of what is held is what it doesn't hide
pub record Leaves (path : List ℕ) (o : Option HeldAt) (row : Option Row) : Type 0 where
  pub id : (seen_after o row).physical ≡ cond (hides_id (row_list row) path) None (held_id o)
  pub attrs : (seen_after o row).attrs ≡ cond (hides_attrs (row_list row) path) None (held_attrs o)

modify_leaves : (h : HeldAt) (w : Wanted) (ds : List Detail) → Leaves w.path (Some h) (modify_row h w ds)
modify_leaves h w ds = either (is_empty ds && not h.unsure) where
  either : (b : Bool) → Leaves w.path (Some h) (cond b None (Some (modified h w ds)))
  either true = record { id = refl; attrs = refl }
  either false = record {
    id = hide_kept (keeps_id (Some (replacement_of ds))) h.physical ∙ ap (λ b. cond (b && not (keeps_id (Some (replacement_of ds))) || false) None (Some h.physical)) (sym (same_path w.path));
    attrs = hide_changed (list_any is_property ds || h.unsure) h.attrs ∙ ap (λ b. cond (b && (list_any is_property ds || h.unsure) || false) None (Some h.attrs)) (sym (same_path w.path));
  }

hide_none : {A : Type 0} (b : Bool) (o : Option A) → o ≡ None → o ≡ cond b None o
hide_none true o h = h
hide_none false o h = refl

row_leaves : (schemas : List Schema) (o : Option HeldAt) (w : Wanted) → Leaves w.path o (row_for schemas o w)
row_leaves schemas None w = record { id = hide_none (hides_id (row_list (row_for schemas None w)) w.path) (held_id None) refl; attrs = hide_none (hides_attrs (row_list (row_for schemas None w)) w.path) (held_attrs None) refl }
row_leaves schemas (Some h) w = modify_leaves h w (details_for schemas h w)

added_id : (rows more : List Row) (path : List ℕ) → hides_id (rows ++ more) path ≡ (hides_id rows path || hides_id more path)
added_id rows more path = list_any-append (λ r. bytes_eq path r.path && row_hides_id r) rows more

added_attrs : (rows more : List Row) (path : List ℕ) → hides_attrs (rows ++ more) path ≡ (hides_attrs rows path || hides_attrs more path)
added_attrs rows more path = list_any-append (λ r. bytes_eq path r.path && row_hides_attrs r) rows more

module _ (schemas : List Schema) (held : List HeldAt) where
  abbrev kind_known : RowsFound → Wanted → RowsFound
  kind_known f w = record f {
    rows = f.rows ++ row_list (row_for schemas (resource_held w.path held) w);
    seen = put w.path (seen_after (resource_held w.path held) (row_for schemas (resource_held w.path held) w)) f.seen;
  }

  abbrev kind_other : RowsFound → Wanted → RowsFound
  kind_other f w = record f { clash = f.clash ++ w.path ∷ []; seen = put w.path (seen_after (resource_held w.path held) None) f.seen }

  put_past : (path at : List ℕ) (v : SeenAt) (seen : Seen) → bytes_eq path at ≡ false → value_at path (put at v seen) ≡ value_at path seen
  put_past path at v seen e = value_put path at v seen ∙ ap (λ b. cond b (Some v) (value_at path seen)) e

  past_with : (path : List ℕ) (f : RowsFound) (w : Wanted) → bytes_eq path w.path ≡ false → IsUntouched path f (found_with schemas held f w)
  past_with path f w e = either (is_other_kind (resource_held w.path held) w) where
    either : (b : Bool) → IsUntouched path f (cond b (kind_other f w) (kind_known f w))
    either true = record { seen = put_past path w.path (seen_after (resource_held w.path held) None) f.seen e; id = refl; attrs = refl }
    either false = record {
      seen = put_past path w.path (seen_after (resource_held w.path held) (row_for schemas (resource_held w.path held) w)) f.seen e;
      id =
          added_id f.rows (row_list (row_for schemas (resource_held w.path held) w)) path
          ∙ ap (λ b. hides_id f.rows path || b) (other_id path w.path (row_for schemas (resource_held w.path held) w) (row_of schemas (resource_held w.path held) w) e) ∙ either_last (hides_id f.rows path) false;
      attrs =
          added_attrs f.rows (row_list (row_for schemas (resource_held w.path held) w)) path
          ∙ ap (λ b. hides_attrs f.rows path || b) (other_attrs path w.path (row_for schemas (resource_held w.path held) w) (row_of schemas (resource_held w.path held) w) e) ∙ either_last (hides_attrs f.rows path) false;
    }

  here_with : (f : RowsFound) (w : Wanted) → IsFresh w.path f → (found_with schemas held f w).clash ≡ [] → IsLeft held w.path (found_with schemas held f w)
  here_with f w new = either (is_other_kind (resource_held w.path held) w) where
    leaves : Leaves w.path (resource_held w.path held) (row_for schemas (resource_held w.path held) w)
    leaves = row_leaves schemas (resource_held w.path held) w

    shown : value_at w.path (kind_known f w).seen ≡ Some (seen_after (resource_held w.path held) (row_for schemas (resource_held w.path held) w))
    shown =
        value_put w.path w.path (seen_after (resource_held w.path held) (row_for schemas (resource_held w.path held) w)) f.seen
        ∙ ap (λ b. cond b (Some (seen_after (resource_held w.path held) (row_for schemas (resource_held w.path held) w))) (value_at w.path f.seen)) (same_path w.path)

    none_left : (paths : List (List ℕ)) (path : List ℕ) → paths ++ path ∷ [] ≡ [] → ⊥
    none_left [] path h = let no : ⊥ = cc in no
    none_left (p ∷ paths) path h = let no : ⊥ = cc in no

    either : (b : Bool) → (cond b (kind_other f w) (kind_known f w)).clash ≡ [] → IsLeft held w.path (cond b (kind_other f w) (kind_known f w))
    either true none = absurd (none_left f.clash w.path none)
    either false none = record {
      id =
          ap (option_and_then (λ s. s.physical)) shown ∙ leaves.id
          ∙ ap (λ b. cond b None (held_id (resource_held w.path held)))
          (sym (added_id f.rows (row_list (row_for schemas (resource_held w.path held) w)) w.path ∙ ap (λ b. b || hides_id (row_list (row_for schemas (resource_held w.path held) w)) w.path) new.id));
      attrs =
          ap (option_and_then (λ s. s.attrs)) shown ∙ leaves.attrs
          ∙ ap (λ b. cond b None (held_attrs (resource_held w.path held)))
          (sym (added_attrs f.rows (row_list (row_for schemas (resource_held w.path held) w)) w.path ∙ ap (λ b. b || hides_attrs (row_list (row_for schemas (resource_held w.path held) w)) w.path) new.attrs));
    }

  clash_with : (f : RowsFound) (w : Wanted) → (found_with schemas held f w).clash ≡ [] → f.clash ≡ []
  clash_with f w = either (is_other_kind (resource_held w.path held) w) where
    none_before : (paths more : List (List ℕ)) → paths ++ more ≡ [] → paths ≡ []
    none_before [] more h = refl
    none_before (p ∷ paths) more h = let no : ⊥ = cc in absurd no

    either : (b : Bool) → (cond b (kind_other f w) (kind_known f w)).clash ≡ [] → f.clash ≡ []
    either true h = none_before f.clash (w.path ∷ []) h
    either false h = h

  module _ (source : Source) (shape : Shape) where
    abbrev step : RowsFound → Member → RowsFound
    step f m = found_next schemas held source shape f m

    past_next : (path : List ℕ) (f : RowsFound) (m : Member) → bytes_eq path m.path ≡ false → IsUntouched path f (step f m)
    past_next path f m e = either (props_at source shape f.seen m.path) where
      either : (o : Option Evaluated) → IsUntouched path f (option_map_or (λ v. found_with schemas held f (wanted_of (m, v))) o f)
      either None = record { seen = refl; id = refl; attrs = refl }
      either (Some v) = past_with path f (wanted_of (m, v)) e

    here_next : (f : RowsFound) (m : Member) → is_among m.path (map (λ x. x.path) (resources_in shape)) ≡ true → IsFresh m.path f → (step f m).clash ≡ [] → IsLeft held m.path (step f m)
    here_next f m there new = either (props_at source shape f.seen m.path) (props_there source shape f.seen m.path there) where
      either : (o : Option Evaluated) → is_some o ≡ true → (option_map_or (λ v. found_with schemas held f (wanted_of (m, v))) o f).clash ≡ []
          → IsLeft held m.path (option_map_or (λ v. found_with schemas held f (wanted_of (m, v))) o f)
      either None h none = absurd (true≢false (sym h))
      either (Some v) h none = here_with f (wanted_of (m, v)) new none

    clash_next : (f : RowsFound) (m : Member) → (step f m).clash ≡ [] → f.clash ≡ []
    clash_next f m = either (props_at source shape f.seen m.path) where
      either : (o : Option Evaluated) → (option_map_or (λ v. found_with schemas held f (wanted_of (m, v))) o f).clash ≡ [] → f.clash ≡ []
      either None h = h
      either (Some v) h = clash_with f (wanted_of (m, v)) h

    clash_along : (f : RowsFound) (ms : List Member) → (fold step f ms).clash ≡ [] → f.clash ≡ []
    clash_along f [] h = h
    clash_along f (m ∷ ms) h = clash_next f m (clash_along (step f m) ms h)

    past_along : (path : List ℕ) (f : RowsFound) (ms : List Member) → is_among path (map (λ x. x.path) ms) ≡ false → IsUntouched path f (fold step f ms)
    past_along path f [] h = record { seen = refl; id = refl; attrs = refl }
    past_along path f (m ∷ ms) h =
        let apart = neither_so (bytes_eq path m.path) (is_among path (map (λ x. x.path) ms)) h in
        untouched_on path f (step f m) (fold step (step f m) ms) (past_next path f m apart.0) (past_along path (step f m) ms apart.1) where
          neither_so : (a b : Bool) → (a || b) ≡ false → (a ≡ false) × (b ≡ false)
          neither_so true b g = absurd (true≢false g)
          neither_so false b g = (refl, g)

    left_on : (path : List ℕ) (f g : RowsFound) → IsUntouched path f g → IsLeft held path f → IsLeft held path g
    left_on path f g u h = record {
      id = ap (option_and_then (λ s. s.physical)) u.seen ∙ h.id ∙ ap (λ b. cond b None (held_id (resource_held path held))) (sym u.id);
      attrs = ap (option_and_then (λ s. s.attrs)) u.seen ∙ h.attrs ∙ ap (λ b. cond b None (held_attrs (resource_held path held))) (sym u.attrs);
    }

    fresh_on : (path : List ℕ) (f g : RowsFound) → IsUntouched path f g → IsFresh path f → IsFresh path g
    fresh_on path f g u h = record { seen = u.seen ∙ h.seen; id = u.id ∙ h.id; attrs = u.attrs ∙ h.attrs }

    left_along : (path : List ℕ) (f : RowsFound) (ms : List Member) → ((q : List ℕ) → is_among q (map (λ x. x.path) ms) ≡ true → is_among q (map (λ x. x.path) (resources_in shape)) ≡ true)
        → all_differ bytes_eq (map (λ x. x.path) ms) ≡ true → IsFresh path f → (fold step f ms).clash ≡ [] → is_among path (map (λ x. x.path) ms) ≡ true → IsLeft held path (fold step f ms)
    left_along path f [] all d new none i = absurd (true≢false (sym i))
    left_along path f (m ∷ ms) all d new none i =
        by_path (bytes_eq path m.path) refl i (λ e j. left_along path (step f m) ms (λ q k. all q (later q k)) (second_so (not (list_any (bytes_eq m.path) (map (λ x. x.path) ms))) _ d)
        (fresh_on path f (step f m) (past_next path f m e) new) none j) where
          later : (q : List ℕ) → is_among q (map (λ x. x.path) ms) ≡ true → is_among q (map (λ x. x.path) (m ∷ ms)) ≡ true
          later q k = either (bytes_eq q m.path) where
            either : (b : Bool) → (b || is_among q (map (λ x. x.path) ms)) ≡ true
            either true = refl
            either false = k

          not_so : (b : Bool) → not b ≡ true → b ≡ false
          not_so true h = absurd (true≢false (sym h))
          not_so false h = refl

          here : IsFresh m.path f → IsLeft held m.path (fold step (step f m) ms)
          here fresh =
              left_on m.path (step f m) (fold step (step f m) ms)
              (past_along m.path (step f m) ms (not_so (is_among m.path (map (λ x. x.path) ms)) (first_so (not (list_any (bytes_eq m.path) (map (λ x. x.path) ms))) _ d)))
              (here_next f m (all m.path (ap (λ b. b || is_among m.path (map (λ x. x.path) ms)) (same_path m.path))) fresh (clash_along (step f m) ms none))

          by_path : (b : Bool) → bytes_eq path m.path ≡ b → (b || is_among path (map (λ x. x.path) ms)) ≡ true
              → (bytes_eq path m.path ≡ false → is_among path (map (λ x. x.path) ms) ≡ true → IsLeft held path (fold step (step f m) ms))
              → IsLeft held path (fold step (step f m) ms)
          by_path true e j ih =
              let same : path ≡ m.path = (bytes_eq-Decides path m.path).0 e in
              subst (λ p. IsLeft held p (fold step (step f m) ms)) (sym same) (here (subst (λ p. IsFresh p f) same new))
          by_path false e j ih = ih e j

-- what is seen with some hidden
module _ (ids attrs : List ℕ → Bool) where
  hidden_id : (seen : Seen) (path : List ℕ) → id_seen path (hidden_of ids attrs seen) ≡ cond (ids path) None (id_seen path seen)
  hidden_id [] path = hide_none (ids path) (id_seen path []) refl
  hidden_id (s ∷ seen) path = either (bytes_eq path s.0) refl (hidden_id seen path) where
    either : (b : Bool) → bytes_eq path s.0 ≡ b → id_seen path (hidden_of ids attrs seen) ≡ cond (ids path) None (id_seen path seen)
        → option_and_then (λ x. x.physical) (cond b (Some (record { physical = cond (ids s.0) None s.1.physical; attrs = cond (attrs s.0) None s.1.attrs })) (value_at path (hidden_of ids attrs seen)))
        ≡ cond (ids path) None (option_and_then (λ x. x.physical) (cond b (Some s.1) (value_at path seen)))
    either true e ih = ap (λ p. cond (ids p) None s.1.physical) (sym ((bytes_eq-Decides path s.0).0 e))
    either false e ih = ih

  hidden_attrs : (seen : Seen) (path : List ℕ) → attrs_seen path (hidden_of ids attrs seen) ≡ cond (attrs path) None (attrs_seen path seen)
  hidden_attrs [] path = hide_none (attrs path) (attrs_seen path []) refl
  hidden_attrs (s ∷ seen) path = either (bytes_eq path s.0) refl (hidden_attrs seen path) where
    either : (b : Bool) → bytes_eq path s.0 ≡ b → attrs_seen path (hidden_of ids attrs seen) ≡ cond (attrs path) None (attrs_seen path seen)
        → option_and_then (λ x. x.attrs) (cond b (Some (record { physical = cond (ids s.0) None s.1.physical; attrs = cond (attrs s.0) None s.1.attrs })) (value_at path (hidden_of ids attrs seen)))
        ≡ cond (attrs path) None (option_and_then (λ x. x.attrs) (cond b (Some s.1) (value_at path seen)))
    either true e ih = ap (λ p. cond (attrs p) None s.1.attrs) (sym ((bytes_eq-Decides path s.0).0 e))
    either false e ih = ih

shown_id : (o : Option HeldAt) → option_and_then (λ s. s.physical) (option_map (λ h. seen_held h None) o) ≡ held_id o
shown_id None = refl
shown_id (Some h) = refl

shown_attrs : (o : Option HeldAt) → option_and_then (λ s. s.attrs) (option_map (λ h. seen_held h None) o) ≡ held_attrs o
shown_attrs None = refl
shown_attrs (Some h) = refl

module _ (schemas : List Schema) (held : List HeldAt) (source : Source) (none : (found_of schemas held source).clash ≡ []) where
  abbrev f : RowsFound
  f = found_of schemas held source

  abbrev shape : Shape
  shape = shape_of source (held_seen held)

  abbrev paths : List (List ℕ)
  paths = map (λ m. m.path) (resources_in shape)

  abbrev rows : List Row
  rows = all_rows f.rows held f.seen

  abbrev first : RowsFound
  first = record { rows = []; seen = []; clash = [] }

  left_at : (path : List ℕ) → is_among path paths ≡ true → IsLeft held path f
  left_at path i = left_along schemas held source shape path first (resources_in shape) (λ q k. k) (members_apart source (held_seen held)) (record { seen = refl; id = refl; attrs = refl }) none i

  id_same : (path : List ℕ) → is_among path paths ≡ true → id_seen path (left_seen rows held) ≡ id_seen path f.seen
  id_same path i =
      hidden_id (hides_id rows) (hides_attrs rows) (held_seen held) path
      ∙ ap (λ b. cond b None (id_seen path (held_seen held))) (same_hidden_id f.rows held f.seen path)
      ∙ ap (λ o. cond (hides_id f.rows path) None o) (ap (option_and_then (λ s. s.physical)) (held_there path held) ∙ shown_id (resource_held path held))
      ∙ sym (left_at path i).id

  attrs_same : (path : List ℕ) → is_among path paths ≡ true → attrs_seen path (left_seen rows held) ≡ attrs_seen path f.seen
  attrs_same path i =
      hidden_attrs (hides_id rows) (hides_attrs rows) (held_seen held) path
      ∙ ap (λ b. cond b None (attrs_seen path (held_seen held))) (same_hidden_attrs f.rows held f.seen path)
      ∙ ap (λ o. cond (hides_attrs f.rows path) None o) (ap (option_and_then (λ s. s.attrs)) (held_there path held) ∙ shown_attrs (resource_held path held))
      ∙ sym (left_at path i).attrs

  -- nothing else is seen
  more : SeesMore f.seen (left_seen rows held)
  more path = either (is_among path paths) refl where
    either : (b : Bool) → is_among path paths ≡ b
        → StaysKnown (id_seen path f.seen) (id_seen path (left_seen rows held)) × StaysKnown (attrs_seen path f.seen) (attrs_seen path (left_seen rows held))
    either true i = (
      subst (λ o. StaysKnown (id_seen path f.seen) o) (sym (id_same path i)) (kept_self (id_seen path f.seen)),
      subst (λ o. StaysKnown (attrs_seen path f.seen) o) (sym (attrs_same path i)) (kept_self (attrs_seen path f.seen)),
    )
    either false i =
        let past = (past_along schemas held source shape path first (resources_in shape) i).seen in (
          subst (λ o. StaysKnown (option_and_then (λ s. s.physical) o) (id_seen path (left_seen rows held))) (sym past) tt,
          subst (λ o. StaysKnown (option_and_then (λ s. s.attrs) o) (attrs_seen path (left_seen rows held))) (sym past) tt,
        )

pub changes_hide : ChangesHide
changes_hide schemas held outputs exports source flawless none =
    let f = found_of schemas held source in
    let clear = flawless_clear source (shape_of source f.seen) f.seen flawless in
    record {
      same = λ path i. (id_same schemas held source none path i, attrs_same schemas held source none path i);
      clear = subst IsClear (sym (shape_stays source f.seen (left_seen (all_rows f.rows held f.seen) held) (more schemas held source none) clear)) clear;
    }

pub stays_forward : ShapeStaysForward
stays_forward schemas held outputs exports source now flawless none keeps =
    let rows = all_rows (found_of schemas held source).rows held (found_of schemas held source).seen in
    hiding_serves source (held_seen held) now (hides_id rows) (hides_attrs rows) (changes_hide schemas held outputs exports source flawless none).clear
    (λ path e. (keeps path).0 e) (λ path e. (keeps path).1 e)
