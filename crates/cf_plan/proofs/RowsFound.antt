-- The rows of a change set, found over what is seen of all that a path needs; and what a row does not hide.
use Rattle.std.proofs.Common.{◌≡◌, ◌∙◌, ℕ, List, ◌∷◌, ◌++◌, Bool, true, false, not, ◌||◌, Option, Some, None, filter, fold, is_some, map, refl, sym, ap, subst, true≢false, append_assoc, ◌⊎◌, inl, inr, ◌+◌, ◌&&◌, [], find}
use Rattle.cf_desired.specs.Stays.{SeesMore, attrs_seen, id_seen}
use Rattle.cf_tree.specs.declared.row.Detail.{Detail}
use Rattle.cf_desired.specs.declared.wanted.Evaluated.{Evaluated}
use Rattle.cf_desired.specs.declared.wanted.Evaluated.TheVariants.{Flawed as flawed, Known as evaluated}
use Rattle.cf_change.specs.Changes.{RowsFound, HeldAt, changes_of, details_for, found_next, found_of, found_with, held_seen, is_always_static, is_empty, is_never, is_other_kind, is_property, is_row_before, keeps_id, modify_row, removed_row, removed_rows, replacement_of, resource_held, row_for, row_list, seen_after}
use Rattle.cf_tree.specs.Lists.{there}
use Rattle.cf_tree.specs.Lists.{here}
use Rattle.cf_tree.specs.Lists.{In}
use Rattle.cf_eval.specs.Knows.{StaysKnown}
use Rattle.cf_desired.specs.ShapeStays.{KeepsRest, hidden_of}
use Rattle.cf_schema.specs.declared.changed.Difference.TheVariants.{Update}
use Rattle.cf_desired.specs.Work.{Member, Shape}
use Rattle.cf_tree.specs.declared.request.Request.{Request}
use Rattle.cf_tree.specs.declared.row.Row.{Row}
use Rattle.cf_export.specs.declared.Output.{Output}
use Rattle.cf_schema.specs.declared.described.Schema.{Schema}
use Rattle.cf_desired.specs.Seeing.{Seen}
use Rattle.cf_desired.specs.Seeing.{SeenAt}
use Rattle.cf_tree.specs.declared.source.Source.{Source}
use Rattle.cf_desired.specs.declared.wanted.Wanted.{Wanted}
use Rattle.cf_tree.specs.Named.{all_differ}
use Rattle.cf_tree.specs.Keys.{put, value_at}
use Rattle.cf_desired.specs.Plan.{props_at, wanted_of}
use Rattle.std.specs.Str.{bytes_eq}
use Rattle.cf_effect.specs.Words.{is_update, updates}
use Rattle.std.specs.Cmp.{first_so, second_so}
use Rattle.cf_desired.specs.Met.{flaws_of}
use Rattle.cf_desired.specs.Shape.{shape_of}
use Rattle.cf_change.specs.Hidden.{row_hides_attrs, row_hides_id}
use Rattle.cf_tree.specs.Lists.{insert_by, is_among}
use Rattle.std.specs.List.{list_any}
use Rattle.std.specs.Prelude.{option_and_then, cond, option_map}
use Rattle.std.specs.Option.{option_map_or}
use Rattle.cf_desired.specs.Valued.{resources_in}
use Rattle.cf_desired.proofs.Puts.{among_pass, value_put}
use Rattle.cf_plan.proofs.RunLists.{any_of, none_any}
use Rattle.std.proofs.lemmas.Slice.Eq.{bytes_eq-Decides}
use Rattle.std.proofs.lemmas.List.Folds.{list_any-append}
use Rattle.std.proofs.lemmas.List.Elements.{filter-append}
use Rattle.std.proofs.lemmas.List.{append-nil}
use Rattle.cf_plan.proofs.CreatedRight.{first_not, not_so, second_not}
use Rattle.cf_desired.proofs.Apart.{members_apart}
use Rattle.cf_desired.specs.ComeFirst.{ComeFirst}
use Rattle.cf_desired.proofs.ComeFirst.{needs_first}
use Rattle.cf_plan.proofs.PropsStay.{Props}
use Rattle.cf_plan.proofs.ChangedLists.{either_way, all_inserted}
use Rattle.cf_tree.specs.declared.request.Request.TheVariants as request
use Rattle.cf_tree.specs.declared.row.Action.TheVariants as action
use Rattle.cf_tree.specs.declared.row.Replacement.TheVariants as replacement

-- The row of a path is in the change set, found over what is seen of all that the path needs.

pub none_first : {A : Type 0} (test : A → Bool) (xs ys : List A) → list_any test (xs ++ ys) ≡ false → list_any test xs ≡ false
none_first test xs ys h = first_not (list_any test xs) (list_any test ys) (sym (list_any-append test xs ys) ∙ h)

none_second : (test : Row → Bool) (xs ys : List Row) → list_any test (xs ++ ys) ≡ false → list_any test ys ≡ false
none_second test xs ys h = second_not (list_any test xs) (list_any test ys) (sym (list_any-append test xs ys) ∙ h)

-- of paths that differ, those among the first are not among the others
apart_behind : (xs ys : List (List ℕ)) (q : List ℕ) → all_differ bytes_eq (xs ++ ys) ≡ true → is_among q xs ≡ true → is_among q ys ≡ false
apart_behind [] ys q d i = absurd (true≢false (sym i))
apart_behind (x ∷ xs) ys q d i = either (bytes_eq q x) refl i (apart_behind xs ys q (second_so (not (list_any (bytes_eq x) (xs ++ ys))) (all_differ bytes_eq (xs ++ ys)) d)) where
  either : (b : Bool) → bytes_eq q x ≡ b → (b || is_among q xs) ≡ true → (is_among q xs ≡ true → is_among q ys ≡ false) → is_among q ys ≡ false
  either true e j ih =
      subst (λ p. is_among p ys ≡ false) (sym ((bytes_eq-Decides q x).0 e))
      (second_not (list_any (bytes_eq x) xs) (list_any (bytes_eq x) ys)
      (sym (list_any-append (bytes_eq x) xs ys) ∙ not_so (list_any (bytes_eq x) (xs ++ ys)) (first_so (not (list_any (bytes_eq x) (xs ++ ys))) (all_differ bytes_eq (xs ++ ys)) d)))
  either false e j ih = ih j

among_front : (xs ys : List (List ℕ)) (q : List ℕ) → is_among q xs ≡ true → is_among q (xs ++ ys) ≡ true
among_front xs ys q i = list_any-append (bytes_eq q) xs ys ∙ ap (λ b. b || list_any (bytes_eq q) ys) i

or_true : (b : Bool) → (b || true) ≡ true
or_true true = refl
or_true false = refl

apart_last : (done : List (List ℕ)) (p : List ℕ) (ps : List (List ℕ)) → all_differ bytes_eq ((done ++ p ∷ []) ++ ps) ≡ true → is_among p ps ≡ false
apart_last done p ps d =
    apart_behind (done ++ p ∷ []) ps p d
    (list_any-append (bytes_eq p) done (p ∷ []) ∙ ap (λ b. is_among p done || (b || false)) ((bytes_eq-Decides p p).1 refl) ∙ or_true (is_among p done))

apart_from : (done : List (List ℕ)) (p : List ℕ) (ps : List (List ℕ)) (q : List ℕ) → all_differ bytes_eq ((done ++ p ∷ []) ++ ps) ≡ true → is_among q ps ≡ true
    → bytes_eq q p ≡ false
apart_from done p ps q d i = either (bytes_eq q p) refl where
  either : (b : Bool) → bytes_eq q p ≡ b → b ≡ false
  either false e = refl
  either true e = absurd (true≢false (sym (subst (λ r. is_among r ps ≡ true) ((bytes_eq-Decides q p).0 e) i) ∙ apart_last done p ps d))

abbrev paths : List Member → List (List ℕ)
paths ms = map (λ m. m.path) ms

-- the rows of a path
abbrev pub rows_at : List ℕ → List Row → List Row
rows_at q rows = filter (λ r. bytes_eq q r.path) rows

one_row_at : (q : List ℕ) (r : Row) → bytes_eq q r.path ≡ true → rows_at q (r ∷ []) ≡ r ∷ []
one_row_at q r e = ap (λ b. cond b (r ∷ []) []) e

no_row_at : (q : List ℕ) (r : Row) → bytes_eq q r.path ≡ false → rows_at q (r ∷ []) ≡ []
no_row_at q r e = ap (λ b. cond b (r ∷ []) []) e

no_more_at : (q : List ℕ) (xs ys : List Row) → rows_at q ys ≡ [] → rows_at q (xs ++ ys) ≡ rows_at q xs
no_more_at q xs ys none = filter-append (λ r. bytes_eq q r.path) xs ys ∙ ap (λ rs. rows_at q xs ++ rs) none ∙ append-nil (rows_at q xs)

-- the row of what is added, and of what is changed
abbrev added_row : Wanted → Row
added_row w = record { action = action.Add; path = w.path; kind = w.kind; replacement = None; unsure = false; details = [] }

abbrev changed_row : HeldAt → Wanted → List Detail → Row
changed_row h w ds = record { action = action.Modify; path = w.path; kind = w.kind; replacement = Some (replacement_of ds); unsure = h.unsure; details = ds }

module _ (schemas : List Schema) (held : List HeldAt) (source : Source) (shape : Shape) where
  abbrev found_step : RowsFound → Member → RowsFound
  found_step f m = found_next schemas held source shape f m

  -- the row of a member with these properties
  abbrev pub row : Member → Evaluated → Option Row
  row m v = row_for schemas (resource_held m.path held) (wanted_of (m, v))

  -- a row is of the path of its member
  own_rows : (o : Option HeldAt) (w : Wanted) → rows_at w.path (row_list (row_for schemas o w)) ≡ row_list (row_for schemas o w)
  own_rows None w = one_row_at w.path (added_row w) ((bytes_eq-Decides w.path w.path).1 refl)
  own_rows (Some h) w = either (is_empty (details_for schemas h w) && not h.unsure) where
    either : (b : Bool) → rows_at w.path (row_list (cond b None (Some (changed_row h w (details_for schemas h w))))) ≡ row_list (cond b None (Some (changed_row h w (details_for schemas h w))))
    either true = refl
    either false = one_row_at w.path (changed_row h w (details_for schemas h w)) ((bytes_eq-Decides w.path w.path).1 refl)

  other_rows : (q : List ℕ) (o : Option HeldAt) (w : Wanted) → bytes_eq q w.path ≡ false → rows_at q (row_list (row_for schemas o w)) ≡ []
  other_rows q None w e = no_row_at q (added_row w) e
  other_rows q (Some h) w e = either (is_empty (details_for schemas h w) && not h.unsure) where
    either : (b : Bool) → rows_at q (row_list (cond b None (Some (changed_row h w (details_for schemas h w))))) ≡ []
    either true = refl
    either false = no_row_at q (changed_row h w (details_for schemas h w)) e

  -- a step is of one path, and many are of theirs; rows and clashes are added
  record IsStep (among : List ℕ → Bool) (f g : RowsFound) : Type 0 where
    seen : (q : List ℕ) → among q ≡ false → value_at q g.seen ≡ value_at q f.seen
    others : (q : List ℕ) → among q ≡ false → rows_at q g.rows ≡ rows_at q f.rows
    rows : (test : Row → Bool) → list_any test g.rows ≡ false → list_any test f.rows ≡ false
    clash : g.clash ≡ [] → f.clash ≡ []

  put_past : (q path : List ℕ) (v : SeenAt) (seen : Seen) → bytes_eq q path ≡ false → value_at q (put path v seen) ≡ value_at q seen
  put_past q path v seen e = value_put q path v seen ∙ ap (λ b. cond b (Some v) (value_at q seen)) e

  none_left : (ps : List (List ℕ)) (p : List ℕ) → ps ++ p ∷ [] ≡ [] → ⊥
  none_left [] p h = let no : ⊥ = cc in no
  none_left (q ∷ ps) p h = let no : ⊥ = cc in no

  abbrev with_kind : RowsFound → Wanted → RowsFound
  with_kind f w = record f {
    rows = f.rows ++ row_list (row_for schemas (resource_held w.path held) w);
    seen = put w.path (seen_after (resource_held w.path held) (row_for schemas (resource_held w.path held) w)) f.seen;
  }

  abbrev with_clash : RowsFound → Wanted → RowsFound
  with_clash f w = record f { clash = f.clash ++ w.path ∷ []; seen = put w.path (seen_after (resource_held w.path held) None) f.seen }

  step_with : (f : RowsFound) (w : Wanted) → IsStep (λ q. bytes_eq q w.path) f (found_with schemas held f w)
  step_with f w =
      either_way (IsStep (λ q. bytes_eq q w.path) f) (is_other_kind (resource_held w.path held) w) (with_clash f w) (with_kind f w)
      (record {
        seen = λ q e. put_past q w.path _ f.seen e;
        others = λ q e. refl;
        rows = λ test h. h;
        clash = λ h. absurd (none_left f.clash w.path h);
      })
      (record {
        seen = λ q e. put_past q w.path _ f.seen e;
        others = λ q e. no_more_at q f.rows (row_list (row_for schemas (resource_held w.path held) w)) (other_rows q (resource_held w.path held) w e);
        rows = λ test h. none_first test f.rows _ h;
        clash = λ h. h;
      })

  one_step : (f : RowsFound) (m : Member) → IsStep (λ q. bytes_eq q m.path) f (found_step f m)
  one_step f m = either (props_at source shape f.seen m.path) where
    either : (o : Option Evaluated) → IsStep (λ q. bytes_eq q m.path) f (option_map_or (λ v. found_with schemas held f (wanted_of (m, v))) o f)
    either None = record { seen = λ q e. refl; others = λ q e. refl; rows = λ test h. h; clash = λ h. h }
    either (Some v) = step_with f (wanted_of (m, v))

  -- many steps
  steps : (ms : List Member) (f : RowsFound) → IsStep (λ q. is_among q (paths ms)) f (fold found_step f ms)
  steps [] f = record { seen = λ q e. refl; others = λ q e. refl; rows = λ test h. h; clash = λ h. h }
  steps (m ∷ ms) f =
      let one = one_step f m in
      let rest = steps ms (found_step f m) in
      record {
        seen = λ q e. rest.seen q (second_not (bytes_eq q m.path) (is_among q (paths ms)) e) ∙ one.seen q (first_not (bytes_eq q m.path) (is_among q (paths ms)) e);
        others = λ q e. rest.others q (second_not (bytes_eq q m.path) (is_among q (paths ms)) e) ∙ one.others q (first_not (bytes_eq q m.path) (is_among q (paths ms)) e);
        rows = λ test h. one.rows test (rest.rows test h);
        clash = λ h. one.clash (rest.clash h);
      }

  -- the row of a path with the properties over what was seen earlier, which is what is seen in the end of all that it needs
  pub record IsFoundAt (all : List (List ℕ)) (m : Member) (f : RowsFound) : Type 0 where
    pub earlier : RowsFound
    pub needs : (q : List ℕ) → is_among q m.needs ≡ true → (is_among q all ≡ true) × (value_at q f.seen ≡ value_at q earlier.seen)
    pub kind : (v : Evaluated) → props_at source shape earlier.seen m.path ≡ Some v → is_other_kind (resource_held m.path held) (wanted_of (m, v)) ≡ false
    pub rows : (v : Evaluated) → props_at source shape earlier.seen m.path ≡ Some v → (test : Row → Bool) → list_any test f.rows ≡ false
        → list_any test (row_list (row m v)) ≡ false
    -- it is the one row of its path, which is seen
    pub only : (v : Evaluated) → props_at source shape earlier.seen m.path ≡ Some v → rows_at m.path f.rows ≡ row_list (row m v)
    pub shows : (v : Evaluated) → props_at source shape earlier.seen m.path ≡ Some v → is_some (value_at m.path f.seen) ≡ true

  same_kind : (f : RowsFound) (w : Wanted) → (found_with schemas held f w).clash ≡ [] → is_other_kind (resource_held w.path held) w ≡ false
  same_kind f w = either (is_other_kind (resource_held w.path held) w) where
    either : (b : Bool) → (cond b (with_clash f w) (with_kind f w)).clash ≡ [] → b ≡ false
    either true h = absurd (none_left f.clash w.path h)
    either false h = refl

  has_row : (f : RowsFound) (w : Wanted) → is_other_kind (resource_held w.path held) w ≡ false → (test : Row → Bool) → list_any test (found_with schemas held f w).rows ≡ false
      → list_any test (row_list (row_for schemas (resource_held w.path held) w)) ≡ false
  has_row f w k test h =
      none_second test f.rows (row_list (row_for schemas (resource_held w.path held) w)) (subst (λ b. list_any test (cond b (with_clash f w) (with_kind f w)).rows ≡ false) k h)

  shows_with : (f : RowsFound) (w : Wanted) → is_other_kind (resource_held w.path held) w ≡ false → is_some (value_at w.path (found_with schemas held f w).seen) ≡ true
  shows_with f w k =
      ap (λ b. is_some (value_at w.path (cond b (with_clash f w) (with_kind f w)).seen)) k
      ∙ ap is_some (value_put w.path w.path (seen_after (resource_held w.path held) (row_for schemas (resource_held w.path held) w)) f.seen
      ∙ ap (λ b. cond b (Some (seen_after (resource_held w.path held) (row_for schemas (resource_held w.path held) w))) (value_at w.path f.seen)) ((bytes_eq-Decides w.path w.path).1 refl))

  only_with : (f : RowsFound) (w : Wanted) → is_other_kind (resource_held w.path held) w ≡ false → rows_at w.path f.rows ≡ []
      → rows_at w.path (found_with schemas held f w).rows ≡ row_list (row_for schemas (resource_held w.path held) w)
  only_with f w k fresh =
      let mine : List Row = row_list (row_for schemas (resource_held w.path held) w) in
      ap (λ b. rows_at w.path (cond b (with_clash f w) (with_kind f w)).rows) k ∙ filter-append (λ r. bytes_eq w.path r.path) f.rows mine
      ∙ ap (λ rs. rs ++ rows_at w.path mine) fresh ∙ own_rows (resource_held w.path held) w

  walk :
      (all done : List (List ℕ)) (f : RowsFound) (ms : List Member) → all ≡ done ++ paths ms → all_differ bytes_eq all ≡ true → ComeFirst done ms
      → ((q : List ℕ) → is_among q (paths ms) ≡ true → rows_at q f.rows ≡ []) → (fold found_step f ms).clash ≡ [] → (m : Member) → In m ms → IsFoundAt all m (fold found_step f ms)
  walk all done f [] same d first fresh none m i = elim i [ ]
  walk all done f (x ∷ ms) same d first fresh none m (there i) =
      let behind = same ∙ sym (append_assoc done (x.path ∷ []) (paths ms)) in
      walk all (done ++ x.path ∷ []) (found_step f x) ms behind d first.1
      (λ q j. (one_step f x).others q (apart_from done x.path (paths ms) q (subst (λ ps. all_differ bytes_eq ps ≡ true) behind d) j) ∙ fresh q (ap (λ b. bytes_eq q x.path || b) j ∙ or_true (bytes_eq q x.path)))
      none m i
  walk all done f (x ∷ ms) same d first fresh none m here =
      let rest = steps ms (found_step f m) in
      let behind = same ∙ sym (append_assoc done (m.path ∷ []) (paths ms)) in
      let past : is_among m.path (paths ms) ≡ false = apart_last done m.path (paths ms) (subst (λ ps. all_differ bytes_eq ps ≡ true) behind d) in
      let is_step : (v : Evaluated) → props_at source shape f.seen m.path ≡ Some v → found_step f m ≡ found_with schemas held f (wanted_of (m, v)) =
      λ v e. ap (λ o. option_map_or (λ u. found_with schemas held f (wanted_of (m, u))) o f) e in
      let kind : (v : Evaluated) → props_at source shape f.seen m.path ≡ Some v → is_other_kind (resource_held m.path held) (wanted_of (m, v)) ≡ false =
      λ v e. same_kind f (wanted_of (m, v)) (subst (λ (g : RowsFound). g.clash ≡ []) (is_step v e) (rest.clash none)) in
      record {
        earlier = f;
        needs = λ q i.
            let among = among_pass (λ n. is_among n done) m.needs q first.0 i in (
              subst (λ ps. is_among q ps ≡ true) (sym same) (among_front done (paths (m ∷ ms)) q among),
              (steps (m ∷ ms) f).seen q (apart_behind done (paths (m ∷ ms)) q (subst (λ ps. all_differ bytes_eq ps ≡ true) same d) among),
            );
        kind = kind;
        rows = λ v e test h. has_row f (wanted_of (m, v)) (kind v e) test (subst (λ (g : RowsFound). list_any test g.rows ≡ false) (is_step v e) (rest.rows test h));
        only = λ v e.
            rest.others m.path past ∙ ap (λ (g : RowsFound). rows_at m.path g.rows) (is_step v e)
            ∙ only_with f (wanted_of (m, v)) (kind v e) (fresh m.path (ap (λ b. b || is_among m.path (paths ms)) ((bytes_eq-Decides m.path m.path).1 refl)));
        shows = λ v e.
            ap is_some (rest.seen m.path past) ∙ ap (λ (g : RowsFound). is_some (value_at m.path g.seen)) (is_step v e) ∙ shows_with f (wanted_of (m, v)) (kind v e);
      }

-- along the shape of what is held
pub found_there : (schemas : List Schema) (held : List HeldAt) (source : Source) → (found_of schemas held source).clash ≡ [] → (m : Member)
    → In m (resources_in (shape_of source (held_seen held)))
    → IsFoundAt schemas held source (shape_of source (held_seen held)) (map (λ x. x.path) (resources_in (shape_of source (held_seen held)))) m (found_of schemas held source)
found_there schemas held source none m i =
    let shape = shape_of source (held_seen held) in
    walk schemas held source shape (map (λ x. x.path) (resources_in shape)) [] (record { rows = []; seen = []; clash = [] }) (resources_in shape) refl
    (members_apart source (held_seen held)) (needs_first source (held_seen held)) (λ q j. refl) none m i

-- what the set's rows don't do, in the order of paths, none that was found does
pub none_found : (test : Row → Bool) (rows : List Row) (held : List HeldAt) (seen : Seen) → list_any test (fold (insert_by is_row_before) [] (rows ++ removed_rows held seen)) ≡ false
    → list_any test rows ≡ false
none_found test rows held seen h =
    let all = rows ++ removed_rows held seen in
    none_first test rows (removed_rows held seen) (none_any test all (λ r i t.
    true≢false (sym (any_of test (fold (insert_by is_row_before) [] all) r ((all_inserted is_row_before r all []).1 (inr i)) t) ∙ h)))

-- What the change set tells of a path is the row of its member: rows in the order of paths are those that were found and of what is removed.
module _ (q : List ℕ) where
  abbrev Before : Row → Row → Bool
  Before = is_row_before

  insert_other : (rs : List Row) (r : Row) → bytes_eq q r.path ≡ false → rows_at q (insert_by Before rs r) ≡ rows_at q rs
  insert_other [] r e = no_row_at q r e
  insert_other (s ∷ rs) r e = either (is_row_before s r) (insert_other rs r e) where
    either : (b : Bool) → rows_at q (insert_by Before rs r) ≡ rows_at q rs → rows_at q (cond b (s ∷ insert_by Before rs r) (r ∷ s ∷ rs)) ≡ rows_at q (s ∷ rs)
    either true rest = ap (λ zs. cond (bytes_eq q s.path) (s ∷ zs) zs) rest
    either false rest = ap (λ b. cond b (r ∷ rows_at q (s ∷ rs)) (rows_at q (s ∷ rs))) e

  insert_first : (rs : List Row) (r : Row) → bytes_eq q r.path ≡ true → rows_at q rs ≡ [] → rows_at q (insert_by Before rs r) ≡ r ∷ []
  insert_first [] r e none = one_row_at q r e
  insert_first (s ∷ rs) r e none = by (bytes_eq q s.path) refl none (insert_first rs r e) where
    by : (c : Bool) → bytes_eq q s.path ≡ c → cond c (s ∷ rows_at q rs) (rows_at q rs) ≡ [] → (rows_at q rs ≡ [] → rows_at q (insert_by Before rs r) ≡ r ∷ [])
        → rows_at q (insert_by Before (s ∷ rs) r) ≡ r ∷ []
    by true k n rest = let no : ⊥ = cc in absurd no
    by false k n rest = either (is_row_before s r) where
      either : (b : Bool) → rows_at q (cond b (s ∷ insert_by Before rs r) (r ∷ s ∷ rs)) ≡ r ∷ []
      either true = ap (λ c. cond c (s ∷ rows_at q (insert_by Before rs r)) (rows_at q (insert_by Before rs r))) k ∙ rest n
      either false =
          ap (λ b. cond b (r ∷ rows_at q (s ∷ rs)) (rows_at q (s ∷ rs))) e
          ∙ ap (λ zs. r ∷ zs) (ap (λ c. cond c (s ∷ rows_at q rs) (rows_at q rs)) k ∙ n)

  -- at most one row of the path stays it
  keep_one : (o : Option Row) (rs acc : List Row) → rows_at q acc ++ rows_at q rs ≡ row_list o → rows_at q (fold (insert_by Before) acc rs) ≡ row_list o
  keep_one o [] acc e = sym (append-nil (rows_at q acc)) ∙ e
  keep_one o (r ∷ rs) acc e = by (bytes_eq q r.path) refl e (keep_one o rs (insert_by Before acc r)) where
    alone : (xs ys : List Row) (p : Option Row) → xs ++ r ∷ ys ≡ row_list p → (xs ≡ []) × (ys ≡ []) × (r ∷ [] ≡ row_list p)
    alone [] ys None h = let no : ⊥ = cc in absurd no
    alone [] ys (Some t) h = let none : ys ≡ [] = cc in (refl, none, ap (λ zs. r ∷ zs) (sym none) ∙ h)
    alone (x ∷ xs) ys None h = let no : ⊥ = cc in absurd no
    alone (x ∷ xs) ys (Some t) h = let left : xs ++ r ∷ ys ≡ [] = cc in absurd (none_behind xs left) where
      none_behind : (zs : List Row) → zs ++ r ∷ ys ≡ [] → ⊥
      none_behind [] l = let no : ⊥ = cc in no
      none_behind (z ∷ zs) l = let no : ⊥ = cc in no

    by : (b : Bool) → bytes_eq q r.path ≡ b → rows_at q acc ++ cond b (r ∷ rows_at q rs) (rows_at q rs) ≡ row_list o
        → (rows_at q (insert_by Before acc r) ++ rows_at q rs ≡ row_list o → rows_at q (fold (insert_by Before) (insert_by Before acc r) rs) ≡ row_list o)
        → rows_at q (fold (insert_by Before) (insert_by Before acc r) rs) ≡ row_list o
    by false k h rest = rest (ap (λ zs. zs ++ rows_at q rs) (insert_other acc r k) ∙ h)
    by true k h rest =
        let (none, left, is) = alone (rows_at q acc) (rows_at q rs) o h in
        rest (ap (λ zs. zs ++ rows_at q rs) (insert_first acc r k none) ∙ ap (λ zs. r ∷ zs) left ∙ is)

  -- what is removed is not seen
  none_removed : (held : List HeldAt) (seen : Seen) → is_some (value_at q seen) ≡ true → rows_at q (removed_rows held seen) ≡ []
  none_removed [] seen shown = refl
  none_removed (h ∷ held) seen shown = by (is_some (value_at h.path seen)) refl (none_removed held seen shown) where
    by : (b : Bool) → is_some (value_at h.path seen) ≡ b → rows_at q (removed_rows held seen) ≡ [] → rows_at q (map removed_row (cond (not b) (h ∷ filter (λ k. not (is_some (value_at k.path seen))) held) (filter (λ k. not (is_some (value_at k.path seen))) held))) ≡ []
    by true k rest = rest
    by false k rest = either (bytes_eq q h.path) refl where
      either : (c : Bool) → bytes_eq q h.path ≡ c → cond c (removed_row h ∷ rows_at q (removed_rows held seen)) (rows_at q (removed_rows held seen)) ≡ []
      either false e = rest
      either true e = absurd (true≢false (sym shown ∙ ap (λ p. is_some (value_at p seen)) ((bytes_eq-Decides q h.path).0 e) ∙ k))

find_first : (q : List ℕ) (rs : List Row) (o : Option Row) → rows_at q rs ≡ row_list o → find (λ r. bytes_eq q r.path) rs ≡ o
find_first q [] None e = refl
find_first q [] (Some t) e = let no : ⊥ = cc in absurd no
find_first q (r ∷ rs) o e = by (bytes_eq q r.path) o e (find_first q rs) where
  by : (b : Bool) (p : Option Row) → cond b (r ∷ rows_at q rs) (rows_at q rs) ≡ row_list p → ((u : Option Row) → rows_at q rs ≡ row_list u → find (λ t. bytes_eq q t.path) rs ≡ u)
      → cond b (Some r) (find (λ t. bytes_eq q t.path) rs) ≡ p
  by true None h rest = let no : ⊥ = cc in absurd no
  by true (Some t) h rest = let is : r ≡ t = cc in ap (λ u. Some u) is
  by false p h rest = rest p h

-- the row that the change set has of a path which is wanted
pub row_found : (schemas : List Schema) (held : List HeldAt) (outputs : List Output) (exports : List (List ℕ × List ℕ)) (source : Source) (m : Member)
    → (at : IsFoundAt schemas held source (shape_of source (held_seen held)) (map (λ x. x.path) (resources_in (shape_of source (held_seen held)))) m (found_of schemas held source))
    → (v : Evaluated) → props_at source (shape_of source (held_seen held)) at.earlier.seen m.path ≡ Some v
    → find (λ r. bytes_eq m.path r.path) (changes_of schemas held outputs exports source).rows ≡ row_for schemas (resource_held m.path held) (wanted_of (m, v))
row_found schemas held outputs exports source m at v e =
    let f : RowsFound = found_of schemas held source in
    let mine : Option Row = row_for schemas (resource_held m.path held) (wanted_of (m, v)) in
    let found_rows : rows_at m.path (f.rows ++ removed_rows held f.seen) ≡ row_list mine =
    no_more_at m.path f.rows (removed_rows held f.seen) (none_removed m.path held f.seen (at.shows v e)) ∙ at.only v e in
    find_first m.path (changes_of schemas held outputs exports source).rows mine (keep_one m.path mine (f.rows ++ removed_rows held f.seen) [] found_rows)

-- what is seen, but for what is hidden, is seen in all that keeps the rest
module _ (ids attrs : List ℕ → Bool) where
  abbrev hide_at : List ℕ → SeenAt → SeenAt
  hide_at path v = record { physical = cond (ids path) None v.physical; attrs = cond (attrs path) None v.attrs }

  hidden_at : (path : List ℕ) (seen : Seen) → value_at path (hidden_of ids attrs seen) ≡ option_map (hide_at path) (value_at path seen)
  hidden_at path [] = refl
  hidden_at path (s ∷ seen) = either (bytes_eq path s.0) refl (hidden_at path seen) where
    either : (b : Bool) → bytes_eq path s.0 ≡ b → value_at path (hidden_of ids attrs seen) ≡ option_map (hide_at path) (value_at path seen)
        → cond b (Some (hide_at s.0 s.1)) (value_at path (hidden_of ids attrs seen)) ≡ option_map (hide_at path) (cond b (Some s.1) (value_at path seen))
    either true e ih = ap (λ p. Some (hide_at p s.1)) (sym ((bytes_eq-Decides path s.0).0 e))
    either false e ih = ih

  kept_unless : {A : Type 0} (b : Bool) (o p : Option A) → (b ≡ false → StaysKnown o p) → StaysKnown (cond b None o) p
  kept_unless true o p h = tt
  kept_unless false o p h = h refl

  pub hidden_less : (seen now : Seen) → KeepsRest ids attrs seen now → SeesMore (hidden_of ids attrs seen) now
  hidden_less seen now rest path =
      subst (λ (o : Option SeenAt). StaysKnown (option_and_then (λ x. x.physical) o) (id_seen path now) × StaysKnown (option_and_then (λ x. x.attrs) o) (attrs_seen path now))
      (sym (hidden_at path seen)) (by_value (value_at path seen) (rest path))
    where
      by_value : (o : Option SeenAt) → (ids path ≡ false → StaysKnown (option_and_then (λ x. x.physical) o) (id_seen path now)) × (attrs path ≡ false → StaysKnown (option_and_then (λ x. x.attrs) o) (attrs_seen path now))
          → StaysKnown (option_and_then (λ x. x.physical) (option_map (hide_at path) o)) (id_seen path now) × StaysKnown (option_and_then (λ x. x.attrs) (option_map (hide_at path) o)) (attrs_seen path now)
      by_value None h = (tt, tt)
      by_value (Some v) h = (kept_unless (ids path) v.physical (id_seen path now) h.0, kept_unless (attrs path) v.attrs (attrs_seen path now) h.1)

pub no_flaw_known : (v : Evaluated) → flaws_of v ≡ [] → (xs : Props) × (v ≡ evaluated xs)
no_flaw_known (evaluated xs) h = (xs, refl)
no_flaw_known (flawed f) h = let no : ⊥ = cc in absurd no

-- what the row of a resource does not hide
module _ (h : HeldAt) (w : Wanted) (ds : List Detail) where
  abbrev modified : Row
  modified = record { action = action.Modify; path = w.path; kind = w.kind; replacement = Some (replacement_of ds); unsure = h.unsure; details = ds }

  own_path : bytes_eq w.path w.path ≡ true
  own_path = (bytes_eq-Decides w.path w.path).1 refl

  one_row : (test : Row → Bool) (b : Bool) → list_any (λ r. bytes_eq w.path r.path && test r) (row_list (cond b None (Some modified))) ≡ false → (b ≡ true) ⊎ (test modified ≡ false)
  one_row test true e = inl refl
  one_row test false e = inr (first_not (test modified) false (sym (ap (λ t. t && test modified || false) own_path) ∙ e))

  no_details : is_empty ds && not h.unsure ≡ true → (ds ≡ []) × (h.unsure ≡ false)
  no_details e = both ds h.unsure e where
    both : (es : List Detail) (b : Bool) → is_empty es && not b ≡ true → (es ≡ []) × (b ≡ false)
    both [] false g = (refl, refl)
    both [] true g = absurd (true≢false (sym g))
    both (d ∷ es) b g = absurd (true≢false (sym g))

  kept_id : (a b : Bool) → not (keeps_id (Some (cond a replacement.True (cond b replacement.Conditional replacement.False)))) ≡ false → b ≡ false
  kept_id true b e = absurd (true≢false e)
  kept_id false true e = absurd (true≢false e)
  kept_id false false e = refl

  pub id_kept : list_any (λ r. bytes_eq w.path r.path && row_hides_id r) (row_list (modify_row h w ds)) ≡ false → list_any (λ d. not (is_never d.recreation)) ds ≡ false
  id_kept e = elim (one_row row_hides_id (is_empty ds && not h.unsure) e) [
    | inl g ↦ ap (list_any (λ d. not (is_never d.recreation))) (no_details g).0
    | inr g ↦ kept_id (list_any (λ d. is_always_static d.recreation d.evaluation) ds) (list_any (λ d. not (is_never d.recreation)) ds) g
  ]

  pub attrs_kept : list_any (λ r. bytes_eq w.path r.path && row_hides_attrs r) (row_list (modify_row h w ds)) ≡ false → (list_any is_property ds ≡ false) × (h.unsure ≡ false)
  attrs_kept e = elim (one_row row_hides_attrs (is_empty ds && not h.unsure) e) [
    | inl g ↦ let none = no_details g in (ap (list_any is_property) none.0, none.1)
    | inr g ↦ (first_not (list_any is_property ds) h.unsure g, second_not (list_any is_property ds) h.unsure g)
  ]

pub not_not : (b : Bool) → not b ≡ false → b ≡ true
not_not true e = refl
not_not false e = absurd (true≢false e)

pub true_from : (b : Bool) → (b ≡ false → ⊥) → b ≡ true
true_from true h = refl
true_from false h = absurd (h refl)

pub updates_one : (physical : List ℕ) (r : Request) → updates physical r ≡ true → is_update r ≡ true
updates_one physical (request.Update id props) h = refl
updates_one physical r h = absurd (true≢false (sym h))
