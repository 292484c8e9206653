-- What is read off a layout, findings and calls is what is known of each path.
use Rattle.std.proofs.Common.{◌≡◌, inl, inr, ℕ, zero, suc, ◌+◌, ◌==◌, ◌<◌, Bool, true, false, ◌&&◌, ◌||◌, not, List, [], ◌∷◌, ◌++◌, Option, Some, None, find, fold, length, map, option_map, replicate, set, take, get_or, refl, ap, sym, ◌∙◌, subst, arith, cond, true≢false, nat_lt, position}
use Rattle.std.specs.Prelude.{is_some, option_and_then, unwrap_or}
use Rattle.std.specs.List.{AllByRecursion, list_any, position_or_len, slice_get}
use Rattle.std.specs.Option.{option_map_or}
use Rattle.std.specs.Str.{bytes_eq}
use Rattle.std.proofs.Math.Seq.{take-suc}
use Rattle.std.specs.Cmp.{first_so, second_so}
use Rattle.std.proofs.lemmas.Bool.{eqb-true, eq-eqb}
use Rattle.std.proofs.lemmas.List.{get_or-set_same, get_or-set_other, length-take-le}
use Rattle.std.proofs.lemmas.List.Folds.{find_at}
use Rattle.std.proofs.lemmas.List.Quantifiers.{position-Some}
use Rattle.std.proofs.lemmas.Option.{none-some, same_Some, slice_get-map, slice_get_past, slice_get_within, unwrap_or-slice_get, slice_get-get_or}
use Rattle.cf_tree.specs.Datum.{Data}
use Rattle.cf_tree.specs.Keys.{value_at}
use Rattle.cf_tree.specs.Named.{all_differ}
use Rattle.cf_tree.specs.declared.source.Source.{Source}
use Rattle.cf_desired.proofs.Apart.{members_apart}
use Rattle.cf_desired.specs.Plan.{plan_by, props_at}
use Rattle.cf_desired.specs.Seeing.{Seen}
use Rattle.cf_desired.specs.Shape.{shape_of}
use Rattle.cf_desired.specs.Valued.{resources_in}
use Rattle.cf_desired.proofs.Termed.{terms_by, wanted_terms}
use Rattle.cf_desired.specs.Turns.{member_terms}
use Rattle.cf_desired.specs.Whole.{known_of, wanted_at}
use Rattle.cf_desired.specs.declared.shape.Terms.{Terms}
use Rattle.cf_desired.specs.declared.wanted.Wanted.{Wanted}
use Rattle.cf_desired.specs.Work.{Member}
use Rattle.cf_desired.specs.declared.wanted.Evaluated.{Evaluated}
use Rattle.cf_desired.specs.declared.wanted.Evaluated.TheVariants as result
use Rattle.cf_effect.proofs.Closed.{none_closed}
use Rattle.cf_effect.specs.Begin.{seen_in}
use Rattle.cf_effect.specs.End.{seen_now}
use Rattle.cf_effect.specs.Findings.{AreFindings, place_among}
use Rattle.cf_effect.specs.Layout.{AreRows, IsLayoutOf, is_row_of, source_members, path_at}
use Rattle.cf_effect.specs.Reply.{terms_of, wanted_in}
use Rattle.cf_effect.specs.Words.{current_at, is_current_at}
use Rattle.cf_effect.specs.World.{StackState}
use Rattle.cf_effect.specs.declared.call.Call.{Call}
use Rattle.cf_effect.specs.declared.findings.Findings.{Findings}
use Rattle.cf_effect.specs.declared.findings.Found.{Found}
use Rattle.cf_effect.specs.declared.held.Held.{Held}
use Rattle.cf_effect.specs.declared.layout.Layout.{Layout}
use Rattle.cf_effect.specs.declared.layout.Placed.{Placed}
use Rattle.cf_rests.proofs.Viewed.{by_paths}
use Rattle.cf_rests.specs.Views.{wanted_from}
use Rattle.cf_plan.specs.Between.{needs_at}
use Rattle.cf_plan.specs.Forward.{Finding, Later, evaluated_at, finding, known_or_later, plan_in, wanted_paths, was_answered_at, was_updated_at}
use Rattle.cf_tree.specs.Lists.{there}
use Rattle.cf_tree.specs.Lists.{here}
use Rattle.cf_tree.specs.Lists.{In}
use Rattle.cf_plan.specs.PathStates.{AreInPlace, AreStatesOf, IsStateOf, is_done_at}
use Rattle.cf_plan.specs.StatesKept.{AreRead, IsRead, at_place, finding_kept, finding_from, is_marking, marked_at, marks_of, with_mark}
use Rattle.cf_plan.specs.declared.path_state.PathState.{PathState}
use Rattle.cf_plan.proofs.Listed.{bytes_same, in_cons, in_none, same_bytes}
use Rattle.cf_plan.proofs.Members.{any_in, false_from, is_so}
use Rattle.cf_plan.proofs.OneShape.{plan_paths}
use Rattle.cf_plan.proofs.Owned.{own_any}
use Rattle.cf_plan.proofs.StatesDone.{at_in}

-- the first that passes, by its place
module _ {A : Type 0} where
  within_some : (xs : List A) (n : ℕ) → n < length xs → is_some (slice_get xs n) ≡ true
  within_some [] n l = absurd (omega (arith, l))
  within_some (x ∷ xs) zero l = refl
  within_some (x ∷ xs) (suc n) l = within_some xs n (omega (arith, l))

  module _ (p : A → Bool) (xs : List A) where
    abbrev n : ℕ
    n = position_or_len p xs

    place_found : option_and_then (slice_get xs) (position p xs) ≡ find p xs
    place_found = by (nat_lt n (length xs)) refl where
      by : (b : Bool) → nat_lt n (length xs) ≡ b → option_and_then (slice_get xs) (cond b (Some n) None) ≡ find p xs
      by true e = sym (find_at p xs)
      by false e = sym (find_at p xs ∙ slice_get_past xs n (grind (arith, e)))

    place_some : is_some (position p xs) ≡ is_some (find p xs)
    place_some = by (nat_lt n (length xs)) refl where
      by : (b : Bool) → nat_lt n (length xs) ≡ b → is_some (cond b (Some n) None) ≡ is_some (find p xs)
      by true e = sym (ap is_some (find_at p xs) ∙ within_some xs n (grind (arith, e)))
      by false e = sym (ap is_some (find_at p xs ∙ slice_get_past xs n (grind (arith, e))))

-- no two places have one name
one_place : (xs : List (List ℕ)) → all_differ bytes_eq xs ≡ true → (i j : ℕ) (x : List ℕ) → slice_get xs i ≡ Some x → slice_get xs j ≡ Some x → i ≡ j
one_place [] d i j x e f = absurd (none-some x e)
one_place (y ∷ ys) d zero zero x e f = refl
one_place (y ∷ ys) d zero (suc j) x e f = absurd (twice y ys d (subst (λ z. In z ys) (sym (same_Some y x e)) (at_in ys j x f))) where
  twice : (y : List ℕ) (ys : List (List ℕ)) → all_differ bytes_eq (y ∷ ys) ≡ true → In y ys → ⊥
  twice y ys d i = true≢false (sym (any_in (bytes_eq y) y ys i (same_bytes y)) ∙ is_so (list_any (bytes_eq y) ys) (first_so (not (list_any (bytes_eq y) ys)) (all_differ bytes_eq ys) d))
one_place (y ∷ ys) d (suc i) zero x e f = absurd (twice y ys d (subst (λ z. In z ys) (sym (same_Some y x f)) (at_in ys i x e))) where
  twice : (y : List ℕ) (ys : List (List ℕ)) → all_differ bytes_eq (y ∷ ys) ≡ true → In y ys → ⊥
  twice y ys d i = true≢false (sym (any_in (bytes_eq y) y ys i (same_bytes y)) ∙ is_so (list_any (bytes_eq y) ys) (first_so (not (list_any (bytes_eq y) ys)) (all_differ bytes_eq ys) d))
one_place (y ∷ ys) d (suc i) (suc j) x e f = ap suc (one_place ys (second_so (not (list_any (bytes_eq y) ys)) (all_differ bytes_eq ys) d) i j x e f)

-- Which paths the operation updated.
module _ (l : Layout) (differ : all_differ bytes_eq (map (λ r. r.path) l.rows.items) ≡ true)
    (places : (path : List ℕ) → value_at path l.places ≡ position (is_row_of path) l.rows.items) (at : ℕ) (row : Placed) (is : slice_get l.rows.items at ≡ Some row) where
  within : at < length l.rows.items
  within = slice_get_within l.rows.items at row is

  named : slice_get (map (λ r. r.path) l.rows.items) at ≡ Some row.path
  named = slice_get-map (λ r. r.path) l.rows.items at ∙ ap (option_map (λ r. r.path)) is

  marked_done : (marks : List Bool) (k : ℕ) → length marks ≡ length l.rows.items → is_done_at (set marks k true) at ≡ (is_done_at marks at || at == k)
  marked_done marks k c = by (at == k) refl where
    by : (b : Bool) → (at == k) ≡ b → is_done_at (set marks k true) at ≡ (is_done_at marks at || b)
    by true e =
        unwrap_or-slice_get (set marks k true) at false ∙ ap (λ j. get_or (set marks j true) at false) (sym (eqb-true at k e))
        ∙ get_or-set_same marks at true false (let w = within in omega (arith, w, c)) ∙ sym (or_true (is_done_at marks at)) where
          or_true : (b : Bool) → (b || true) ≡ true
          or_true true = refl
          or_true false = refl
    by false e =
        unwrap_or-slice_get (set marks k true) at false
        ∙ get_or-set_other marks k at true false (λ same. true≢false (sym (eq-eqb at k same) ∙ e))
        ∙ sym (unwrap_or-slice_get marks at false) ∙ sym (or_false (is_done_at marks at)) where
          or_false : (b : Bool) → (b || false) ≡ b
          or_false true = refl
          or_false false = refl

  -- the mark of a path is set just by its own name
  marks_own : (marks : List Bool) (path : List ℕ) → length marks ≡ length l.rows.items
      → is_done_at (marked_at marks (value_at path l.places)) at ≡ (is_done_at marks at || bytes_eq row.path path)
  marks_own marks path c = ap (λ o. is_done_at (marked_at marks o) at) (places path) ∙ by (position (is_row_of path) l.rows.items) refl where
    or_false : (b : Bool) → (b || false) ≡ b
    or_false true = refl
    or_false false = refl

    none : position (is_row_of path) l.rows.items ≡ None → bytes_eq row.path path ≡ false
    none e = false_from (bytes_eq row.path path) (λ t.
        let f = none_closed (is_row_of path) l.rows.items e in
        let p = found_some l.rows.items row (at_in l.rows.items at row is) (subst (λ q. bytes_eq path q ≡ true) (sym (bytes_same row.path path t)) (same_bytes path)) in
        true≢false (sym p ∙ ap is_some (sym f))) where
          found_some : (rs : List Placed) (r : Placed) → In r rs → bytes_eq path r.path ≡ true → is_some (find (is_row_of path) rs) ≡ true
          found_some (q ∷ rs) _ here t = ap (λ b. is_some (cond b (Some q) (find (is_row_of path) rs))) t
          found_some (q ∷ rs) r (there i) t = either (bytes_eq path q.path) (found_some rs r i t) where
            either : (b : Bool) → is_some (find (is_row_of path) rs) ≡ true → is_some (cond b (Some q) (find (is_row_of path) rs)) ≡ true
            either true h = refl
            either false h = h
          found_some [] r i t = absurd (in_none i)

    some : (k : ℕ) → position (is_row_of path) l.rows.items ≡ Some k → (at == k) ≡ bytes_eq row.path path
    some k e = by_test (bytes_eq row.path path) refl where
      there_at : (k < length l.rows.items) × (bytes_eq path (get_or l.rows.items k row).path ≡ true)
      there_at = let w = position-Some (is_row_of path) l.rows.items k row e in (w.0, w.1)

      at_k : slice_get (map (λ r. r.path) l.rows.items) k ≡ Some path
      at_k =
          slice_get-map (λ r. r.path) l.rows.items k ∙ ap (option_map (λ r. r.path)) (slice_get-get_or l.rows.items k row there_at.0)
          ∙ ap (λ p. Some p) (sym (bytes_same path (get_or l.rows.items k row).path there_at.1))

      by_test : (b : Bool) → bytes_eq row.path path ≡ b → (at == k) ≡ b
      by_test true t =
          eq-eqb at k (one_place (map (λ r. r.path) l.rows.items) differ at k path (named ∙ ap (λ p. Some p) (bytes_same row.path path t)) at_k)
      by_test false f = false_from (at == k) (λ t.
          let same : row.path ≡ path = same_Some row.path path (sym named ∙ ap (slice_get (map (λ r. r.path) l.rows.items)) (eqb-true at k t) ∙ at_k) in
          true≢false (sym (subst (λ p. bytes_eq row.path p ≡ true) same (same_bytes row.path)) ∙ f))

    by : (o : Option ℕ) → position (is_row_of path) l.rows.items ≡ o → is_done_at (marked_at marks o) at ≡ (is_done_at marks at || bytes_eq row.path path)
    by None e = sym (ap (λ b. is_done_at marks at || b) (none e) ∙ or_false (is_done_at marks at))
    by (Some k) e = marked_done marks k c ∙ ap (λ b. is_done_at marks at || b) (some k e)

  module _ (good : Bool) (number : ℕ) where
    abbrev is_own : Call → Bool
    is_own c = c.number == number && (bytes_eq row.path c.path && is_marking good c)

    set_length : (xs : List Bool) (k : ℕ) → length (set xs k true) ≡ length xs
    set_length [] k = refl
    set_length (x ∷ xs) zero = refl
    set_length (x ∷ xs) (suc k) = ap suc (set_length xs k)

    step_length : (marks : List Bool) (c : Call) → length (with_mark l.places good number marks c) ≡ length marks
    step_length marks c = by (c.number == number && is_marking good c) (value_at c.path l.places) where
      by : (b : Bool) (o : Option ℕ) → length (cond b (marked_at marks o) marks) ≡ length marks
      by true None = refl
      by true (Some k) = set_length marks k
      by false o = refl

    step_marks : (marks : List Bool) (c : Call) → length marks ≡ length l.rows.items
        → is_done_at (with_mark l.places good number marks c) at ≡ (is_done_at marks at || is_own c)
    step_marks marks c n = by (c.number == number) (is_marking good c) (bytes_eq row.path c.path) (marks_own marks c.path n) where
      or_false : (b : Bool) → (b || false) ≡ b
      or_false true = refl
      or_false false = refl

      by : (a b x : Bool) → is_done_at (marked_at marks (value_at c.path l.places)) at ≡ (is_done_at marks at || x)
          → is_done_at (cond (a && b) (marked_at marks (value_at c.path l.places)) marks) at ≡ (is_done_at marks at || (a && (x && b)))
      by true true true h = h
      by true true false h = h
      by true false true h = sym (or_false (is_done_at marks at))
      by true false false h = sym (or_false (is_done_at marks at))
      by false b x h = sym (or_false (is_done_at marks at))

    all_marks : (calls : List Call) (marks : List Bool) → length marks ≡ length l.rows.items
        → is_done_at (fold (with_mark l.places good number) marks calls) at ≡ (is_done_at marks at || list_any is_own calls)
    all_marks [] marks n = sym (or_false (is_done_at marks at)) where
      or_false : (b : Bool) → (b || false) ≡ b
      or_false true = refl
      or_false false = refl
    all_marks (c ∷ calls) marks n =
        all_marks calls (with_mark l.places good number marks c) (step_length marks c ∙ n)
        ∙ ap (λ b. b || list_any is_own calls) (step_marks marks c n) ∙ or_more (is_done_at marks at) (is_own c) (list_any is_own calls) where
          or_more : (a b c : Bool) → ((a || b) || c) ≡ (a || (b || c))
          or_more true b c = refl
          or_more false b c = refl

    none_marked : (n k : ℕ) → is_done_at (replicate n false) k ≡ false
    none_marked zero k = refl
    none_marked (suc n) zero = refl
    none_marked (suc n) (suc k) = none_marked n k

    count_marks : (n : ℕ) → length (replicate n false) ≡ n
    count_marks zero = refl
    count_marks (suc n) = ap suc (count_marks n)

    pub marks_are : (calls : List Call) → is_done_at (marks_of (length l.rows.items) l.places good number calls) at ≡ list_any is_own calls
    marks_are calls =
        all_marks calls (replicate (length l.rows.items) false) (count_marks (length l.rows.items))
        ∙ ap (λ b. b || list_any is_own calls) (none_marked (length l.rows.items) at)

-- What the shape of the operation's source says of a path.
mapped_from : {A B : Type 0} (f : A → B) (o : Option A) (b : B) → option_map f o ≡ Some b → (a : A) × (o ≡ Some a) × (f a ≡ b)
mapped_from f None b e = absurd (none-some b e)
mapped_from f (Some a) b e = (a, refl, same_Some (f a) b e)

-- of members whose paths differ each is the first of its path
first_of : (ms : List Member) (at : ℕ) (m : Member) → all_differ bytes_eq (map (λ n. n.path) ms) ≡ true → slice_get ms at ≡ Some m → find (λ n. bytes_eq m.path n.path) ms ≡ Some m
first_of [] at m d e = absurd (none-some m e)
first_of (n ∷ ms) zero m d e = subst (λ k. find (λ j. bytes_eq k.path j.path) (n ∷ ms) ≡ Some k) (same_Some n m e) (ap (λ b. cond b (Some n) (find (λ j. bytes_eq n.path j.path) ms)) (same_bytes n.path))
first_of (n ∷ ms) (suc at) m d e =
    let other : bytes_eq m.path n.path ≡ false = false_from (bytes_eq m.path n.path) (λ t.
    let named : slice_get (map (λ (j : Member). j.path) (n ∷ ms)) (suc at) ≡ Some n.path =
    slice_get-map (λ (j : Member). j.path) ms at ∙ ap (option_map (λ (j : Member). j.path)) e ∙ ap (λ p. Some p) (bytes_same m.path n.path t) in
    let no : 0 ≡ suc at = one_place (map (λ (j : Member). j.path) (n ∷ ms)) d 0 (suc at) n.path refl named in
    absurd (omega (arith, no))) in
    ap (λ b. cond b (Some n) (find (λ j. bytes_eq m.path j.path) ms)) other
    ∙ first_of ms at m (second_so (not (list_any (bytes_eq n.path) (map (λ j. j.path) ms))) (all_differ bytes_eq (map (λ j. j.path) ms)) d) e

abbrev in_source : Option Source → Seen → List Member
in_source g before = option_map_or (λ source. resources_in (shape_of source before)) g []

differ_in : (g : Option Source) (before : Seen) → all_differ bytes_eq (map (λ m. m.path) (in_source g before)) ≡ true
differ_in None before = refl
differ_in (Some source) before = members_apart source before

paths_in : (g : Option Source) (before : Seen) → map (λ m. m.path) (in_source g before) ≡ map (λ w. w.path) (plan_in g before before).wanted
paths_in None before = refl
paths_in (Some source) before = sym (plan_paths source (shape_of source before) before)

needs_told : Option Terms → List (List ℕ)
needs_told None = []
needs_told (Some t) = t.needs

wanted_needs : (o : Option Wanted) → (terms_of o).needs ≡ needs_told (option_map terms_by o)
unfolding needs_told
wanted_needs None = refl
wanted_needs (Some w) = refl

needs_in : (g : Option Source) (before : Seen) (at : ℕ) (m : Member) → slice_get (in_source g before) at ≡ Some m → (terms_of (wanted_in g before m.path)).needs ≡ m.needs
unfolding needs_told
needs_in None before at m e = absurd (none-some m e)
needs_in (Some source) before at m e =
    wanted_needs (wanted_at m.path (plan_by source (shape_of source before) before)) ∙ ap needs_told (wanted_terms source before (shape_of source before) m.path)
    ∙ ap (λ o. needs_told (option_map member_terms o)) (first_of (resources_in (shape_of source before)) at m (members_apart source before) e)

finding_in_plan : (g : Option Source) (before seen : Seen) (at : ℕ) (m : Member) (v : Evaluated) → slice_get (in_source g before) at ≡ Some m
    → option_and_then (λ source. props_at source (shape_of source before) seen m.path) g ≡ Some v
    → option_map_or (λ w. finding w.kind w.props) (wanted_at m.path (plan_in g before seen)) Later ≡ finding m.kind v
finding_in_plan None before seen at m v e f = absurd (none-some m e)
finding_in_plan (Some source) before seen at m v e f =
    ap (λ o. option_map_or (λ w. finding w.kind w.props) o Later)
    ((by_paths source (shape_of source before) seen).wanted m.path
    ∙ ap (λ o. wanted_from o (props_at source (shape_of source before) seen m.path)) (first_of (resources_in (shape_of source before)) at m (members_apart source before) e)
    ∙ ap (wanted_from (Some m)) f)

told_so : (kind : List ℕ) (v : Evaluated) (known : Option (List (List ℕ × Data))) → known ≡ known_of v → finding_from kind v known ≡ finding kind v
told_so kind (result.Flawed flaw) known e = refl
told_so kind (result.Known ps) known e = ap (known_or_later kind) e

-- What is read of a row is what is known of its path.
all_earlier : (k : ℕ) (js : List ℕ) → AllByRecursion (λ j. j < k) js → (j : ℕ) → In j js → j < k
all_earlier k [] a j i = absurd (in_none i)
all_earlier k (x ∷ js) a j i = elim (in_cons i) [ inl e ↦ subst (λ y. y < k) e a.0 | inr m ↦ all_earlier k js a.1 j m ]

-- the paths of the rows are those of the operation's template
pub paths_laid : (s : StackState) (l : Layout) → AreRows (source_members s) l → map (λ r. r.path) l.rows.items ≡ wanted_paths s
paths_laid s l rows = rows.paths ∙ paths_in s.going (seen_in s.before)

module _ (s : StackState) (l : Layout) (f : Findings) (rows : AreRows (source_members s) l) (finds : AreFindings s f) where
  abbrev ms : List Member
  ms = source_members s

  paths_are : map (λ r. r.path) l.rows.items ≡ wanted_paths s
  paths_are = paths_laid s l rows

  rows_differ : all_differ bytes_eq (map (λ r. r.path) l.rows.items) ≡ true
  rows_differ = subst (λ ps. all_differ bytes_eq ps ≡ true) (sym rows.paths) (differ_in s.going (seen_in s.before))

  module _ (at : ℕ) (row : Placed) (is : slice_get l.rows.items at ≡ Some row) where
    found_member : (m : Member) × (slice_get ms at ≡ Some m) × (m.path ≡ row.path)
    found_member =
        mapped_from (λ (m : Member). m.path) (slice_get ms at) row.path
        (sym (slice_get-map (λ (m : Member). m.path) ms at) ∙ ap (λ ps. slice_get ps at) (sym rows.paths)
        ∙ slice_get-map (λ (r : Placed). r.path) l.rows.items at ∙ ap (option_map (λ (r : Placed). r.path)) is)

    abbrev member : Member
    member = found_member.0

    its : {A : Type 0} (of_member : Member → A) (of_row : Placed → A) → map of_row l.rows.items ≡ map of_member ms → of_row row ≡ of_member member
    its of_member of_row e =
        same_Some (of_row row) (of_member member)
        (sym (slice_get-map of_row l.rows.items at ∙ ap (option_map of_row) is) ∙ ap (λ xs. slice_get xs at) e
        ∙ slice_get-map of_member ms at ∙ ap (option_map of_member) found_member.1)

    kept_place : (places : List (Option ℕ)) (hs : List Held) → places ≡ map (λ m. place_among m.path hs) ms → at_place places at ≡ place_among row.path hs
    kept_place places hs e =
        ap (option_and_then (λ x. x)) (ap (λ xs. slice_get xs at) e ∙ slice_get-map (λ (m : Member). place_among m.path hs) ms at
        ∙ ap (option_map (λ (m : Member). place_among m.path hs)) found_member.1)
        ∙ ap (λ path. place_among path hs) found_member.2

    -- what it needs
    at_need : (j : ℕ) → j < at → slice_get (wanted_paths s) j ≡ Some (path_at l.rows.items j)
    at_need j less =
        let below = slice_get_within l.rows.items at row is in
        let there = slice_get-get_or l.rows.items j row (omega (arith, less, below)) in
        ap (λ ps. slice_get ps j) (sym paths_are) ∙ slice_get-map (λ (r : Placed). r.path) l.rows.items j
        ∙ ap (option_map (λ (r : Placed). r.path)) there ∙ ap (λ o. Some (option_map_or (λ (r : Placed). r.path) o [])) (sym there)

    all_needs : (js : List ℕ) → ((j : ℕ) → In j js → j < at) → map (λ j. slice_get (wanted_paths s) j) js ≡ map (λ q. Some q) (map (path_at l.rows.items) js)
    all_needs [] h = refl
    all_needs (j ∷ js) h = ap (λ o. o ∷ map (λ k. slice_get (wanted_paths s) k) js) (at_need j (h j here)) ∙ ap (λ os. Some (path_at l.rows.items j) ∷ os) (all_needs js (λ k i. h k (there i)))

    earlier : (j : ℕ) → In j row.needs.items → j < at
    earlier j i =
        all_earlier at row.needs.items (subst (λ (o : Option Placed). AllByRecursion (λ k. k < at) (option_map_or (λ r. r.needs.items) o [])) is (rows.earlier at)) j i

    needs_are : needs_at row.path s ≡ map (path_at l.rows.items) row.needs.items
    needs_are =
        ap (λ path. needs_at path s) (sym found_member.2) ∙ needs_in s.going (seen_in s.before) at member found_member.1
        ∙ sym (its (λ (m : Member). m.needs) (λ (r : Placed). map (path_at l.rows.items) r.needs.items) rows.needs)

    -- what its properties come to
    found_is : (o : Option Found) → at_place f.found.items at ≡ o → (g : Finding) → finding_kept row.kind o ≡ Some g → evaluated_at row.path s ≡ g
    found_is None k g e = absurd (none-some g e)
    found_is (Some e) k g h =
        let kept = kept_found (slice_get f.found.items at) e k in
        let is_found = finds.found at member e found_member.1 kept in
        subst (λ path. evaluated_at path s ≡ g) found_member.2
        (finding_in_plan s.going (seen_in s.before) (seen_now s) at member e.evaluated found_member.1 is_found.evaluated
        ∙ ap (λ kind. finding kind e.evaluated) (sym (its (λ (m : Member). m.kind) (λ (r : Placed). r.kind) rows.kinds))
        ∙ sym (told_so row.kind e.evaluated e.known is_found.known) ∙ same_Some (finding_from row.kind e.evaluated e.known) g h) where
          kept_found : (o : Option (Option Found)) (e : Found) → option_and_then (λ x. x) o ≡ Some e → o ≡ Some (Some e)
          kept_found None e k = absurd (none-some e k)
          kept_found (Some None) e k = absurd (none-some e k)
          kept_found (Some (Some d)) e k = ap (λ c. Some c) k

  module _ (number : ℕ) (calls : List Call) (own : number ≡ s.operation) (ledger : calls ≡ s.ledger) where
    abbrev updated : List Bool
    updated = marks_of (length l.rows.items) l.places true number calls

    abbrev answered : List Bool
    answered = marks_of (length l.rows.items) l.places false number calls

    is_state : (at : ℕ) (row : Placed) (p : PathState) → slice_get l.rows.items at ≡ Some row → IsRead f updated answered s.held at row p → IsStateOf s p
    is_state at row p is r =
        record {
          needs = ap (map (λ j. slice_get (wanted_paths s) j)) r.needs ∙ all_needs at row is row.needs.items (earlier at row is)
              ∙ ap (map (λ q. Some q)) (sym (ap (λ path. needs_at path s) r.path ∙ needs_are at row is));
          before = λ j i. subst (λ k. j < k) (sym r.place) (earlier at row is j (subst (In j) r.needs i));
          made = r.made ∙ ap is_some (kept_place at row is f.made.items s.made finds.made) ∙ place_some (is_current_at row.path) s.made
              ∙ ap (λ path. is_some (current_at path s.made)) (sym r.path);
          updated = r.updated ∙ marks_are l rows_differ rows.places at row is true number calls
              ∙ own_any (λ c. bytes_eq row.path c.path && is_marking true c) number calls s own ledger ∙ ap (λ path. was_updated_at path s) (sym r.path);
          answered = r.answered ∙ marks_are l rows_differ rows.places at row is false number calls
              ∙ own_any (λ c. bytes_eq row.path c.path && is_marking false c) number calls s own ledger ∙ ap (λ path. was_answered_at path s) (sym r.path);
          held = r.held ∙ ap (option_and_then (slice_get s.held)) (kept_place at row is f.held.items s.held finds.held) ∙ place_found (is_current_at row.path) s.held
              ∙ ap (λ path. current_at path s.held) (sym r.path);
          found = λ g e. ap (λ path. evaluated_at path s) r.path ∙ found_is at row is (at_place f.found.items at) refl g (sym r.found ∙ e);
        }

    -- one of those that are read is read of a row
    of_row : (rs : List Placed) (first : ℕ) (ps : List PathState) → AreRead f updated answered s.held first rs ps → (p : PathState) → In p ps
        → (at : ℕ) × (row : Placed) × (slice_get rs at ≡ Some row) × IsRead f updated answered s.held (first + at) row p
    of_row [] first [] a p i = absurd (in_none i)
    of_row [] first (q ∷ ps) a p i = absurd a
    of_row (r ∷ rs) first [] a p i = absurd a
    of_row (r ∷ rs) first (q ∷ ps) a p i = elim (in_cons i) [
      | inl e ↦ (0, r, refl, subst (λ k. IsRead f updated answered s.held k r p) (let k : first ≡ first + 0 = omega arith in k) (subst (IsRead f updated answered s.held first r) e a.0))
      | inr m ↦ (let w = of_row rs (suc first) ps a.1 p m in
          (suc w.0, w.1, w.2, subst (λ k. IsRead f updated answered s.held k w.1 p) (let k : suc first + w.0 ≡ first + suc w.0 = omega arith in k) w.3))
    ]

    paths_read : (rs : List Placed) (first : ℕ) (ps : List PathState) → AreRead f updated answered s.held first rs ps → map (λ p. p.path.now) ps ≡ map (λ r. r.path) rs
    paths_read [] first [] a = refl
    paths_read [] first (q ∷ ps) a = absurd a
    paths_read (r ∷ rs) first [] a = absurd a
    paths_read (r ∷ rs) first (q ∷ ps) a = ap (λ path. path ∷ map (λ p. p.path.now) ps) a.0.path ∙ ap (λ paths. r.path ∷ paths) (paths_read rs (suc first) ps a.1)

    places_read : (rs : List Placed) (first : ℕ) (ps : List PathState) → AreRead f updated answered s.held first rs ps → AreInPlace first ps
    places_read [] first [] a = tt
    places_read [] first (q ∷ ps) a = absurd a
    places_read (r ∷ rs) first [] a = absurd a
    places_read (r ∷ rs) first (q ∷ ps) a = (a.0.place, places_read rs (suc first) ps a.1)

    are_states : (ps : List PathState) → AreRead f updated answered s.held 0 l.rows.items ps → AreStatesOf s ps
    are_states ps a = record {
      paths = paths_read l.rows.items 0 ps a ∙ paths_are;
      places = places_read l.rows.items 0 ps a;
      each = λ p i.
          let w = of_row l.rows.items 0 ps a p i in
          is_state w.0 w.1 p w.2 (subst (λ k. IsRead f updated answered s.held k w.1 p) (let k : 0 + w.0 ≡ w.0 = omega arith in k) w.3);
    }

-- by what code has
pub read_so :
    (s : StackState) (l : Layout) (f : Findings) (number : ℕ) (calls : List Call) (good told : List Bool) (held : List Held) (rows : List Placed) (ps : List PathState)
    → IsLayoutOf s (Some l) → AreFindings s f → number ≡ s.operation → calls ≡ s.ledger
    → good ≡ marks_of (length l.rows.items) l.places true number calls → told ≡ marks_of (length l.rows.items) l.places false number calls
    → held ≡ s.held → rows ≡ l.rows.items → AreRead f good told held 0 rows ps → AreStatesOf s ps
read_so s l f number calls good told held rows ps layout finds own ledger u a h r read =
    are_states s l f layout finds number calls own ledger ps
    (subst (λ (rs : List Placed). AreRead f (marks_of (length l.rows.items) l.places true number calls) (marks_of (length l.rows.items) l.places false number calls) s.held 0 rs ps) r
    (subst (λ (hs : List Held). AreRead f (marks_of (length l.rows.items) l.places true number calls) (marks_of (length l.rows.items) l.places false number calls) hs 0 rows ps) h
    (subst (λ m. AreRead f (marks_of (length l.rows.items) l.places true number calls) m held 0 rows ps) a
    (subst (λ m. AreRead f m told held 0 rows ps) u read))))

-- one row more is read
module _ (f : Findings) (updated answered : List Bool) (held : List Held) where
  read_last : (rs : List Placed) (first : ℕ) (ps : List PathState) (row : Placed) (p : PathState) → AreRead f updated answered held first rs ps
      → IsRead f updated answered held (first + length rs) row p → AreRead f updated answered held first (rs ++ row ∷ []) (ps ++ p ∷ [])
  read_last [] first [] row p a r = (subst (λ k. IsRead f updated answered held k row p) (let k : first + 0 ≡ first = omega arith in k) r, tt)
  read_last [] first (q ∷ ps) row p a r = absurd a
  read_last (x ∷ rs) first [] row p a r = absurd a
  read_last (x ∷ rs) first (q ∷ ps) row p a r =
      (a.0, read_last rs (suc first) ps row p a.1 (subst (λ k. IsRead f updated answered held k row p) (let k : first + suc (length rs) ≡ suc first + length rs = omega arith in k) r))

  pub read_more : (rows : List Placed) (i : ℕ) (row : Placed) (old new : List PathState) (p : PathState) → i < length rows → row ≡ get_or rows i row
      → AreRead f updated answered held 0 (take i rows) old → IsRead f updated answered held i row p → new ≡ old ++ p ∷ []
      → AreRead f updated answered held 0 (take (i + 1) rows) new
  read_more rows i row old new p l is a r e =
      let count : length (take i rows) ≡ i = length-take-le i rows (omega (arith, l)) in
      let start : i ≡ 0 + length (take i rows) = omega (arith, count) in
      let next : suc i ≡ i + 1 = omega arith in
      subst (λ (rs : List Placed). AreRead f updated answered held 0 rs new)
      (ap (λ x. take i rows ++ x ∷ []) is ∙ sym (take-suc rows i row l) ∙ ap (λ k. take k rows) next)
      (subst (AreRead f updated answered held 0 (take i rows ++ row ∷ [])) (sym e)
      (read_last (take i rows) 0 old row p a (subst (λ k. IsRead f updated answered held k row p) start r)))
