-- Where the forward phase is complete, all that the change set of its operation tells has come true.
use Rattle.std.proofs.Common.{◌≡◌, ◌∙◌, ◌⊎◌, inl, inr, ◌++◌, ◌∷◌, ◌+◌, ℕ, Bool, true, false, cond, not, ◌&&◌, ◌||◌, List, [], Option, Some, None, map, refl, sym, ap, subst, true≢false}
use Rattle.std.specs.Cmp.{first_so, second_so}
use Rattle.std.specs.List.{list_any}
use Rattle.std.specs.Option.{option_map, option_map_or, option_or}
use Rattle.std.specs.Str.{bytes_eq}
use Rattle.cf_tree.specs.Datum.{Data}
use Rattle.cf_tree.specs.Lists.{In, is_among}
use Rattle.cf_tree.specs.declared.request.Request.{Request}
use Rattle.cf_tree.specs.declared.request.Request.TheVariants as request
use Rattle.cf_tree.specs.declared.row.Detail.{Detail}
use Rattle.cf_tree.specs.declared.row.Row.{Row}
use Rattle.cf_tree.specs.declared.source.Source.{Source}
use Rattle.cf_schema.specs.Change.{any_differs, difference_of}
use Rattle.cf_schema.specs.Kinds.{found}
use Rattle.cf_schema.specs.declared.changed.Difference.TheVariants.{MayReplace, Replace, Same, Update}
use Rattle.cf_schema.specs.declared.described.Schema.{Schema}
use Rattle.cf_schema.proofs.Equal.{equal_same}
use Rattle.cf_change.specs.Changes.{HeldAt, details_for, held_seen, is_empty, policy_details, property_details, resource_held, row_for}
use Rattle.cf_desired.specs.Plan.{plan_of, wanted_of}
use Rattle.cf_desired.specs.Shape.{shape_of}
use Rattle.cf_desired.specs.Valued.{resources_in}
use Rattle.cf_desired.specs.Work.{Shape}
use Rattle.cf_desired.specs.Whole.{Right, Whole, all_of, known_of, right_export, right_of, right_output, unless_flawed, whole_from, whole_in, whole_with}
use Rattle.cf_desired.specs.declared.flaw.Flaw.{Flaw}
use Rattle.cf_desired.specs.declared.wanted.Evaluated.TheVariants.{Known as evaluated}
use Rattle.cf_desired.specs.declared.wanted.Plan.{Plan}
use Rattle.cf_desired.specs.declared.wanted.Wanted.{Wanted}
use Rattle.cf_entry.specs.declared.entry.Entry.{Entry}
use Rattle.cf_entry.specs.declared.entry.Entry.TheVariants as entry
use Rattle.cf_entry.specs.declared.status.Status.TheVariants as status
use Rattle.cf_entry.specs.declared.turn.Phase.TheVariants as phase
use Rattle.cf_export.specs.declared.Output.{Output}
use Rattle.cf_effect.specs.declared.call.Call.{Call}
use Rattle.cf_effect.specs.declared.held.Held.{Held}
use Rattle.cf_effect.specs.Begin.{seen_in}
use Rattle.cf_effect.specs.Calls.{succeeded, was_updated}
use Rattle.cf_effect.specs.End.{as_wanted, is_physical_of, marked, seen_now, settled_in, whole_now}
use Rattle.cf_effect.specs.Status.{goes_forward}
use Rattle.cf_effect.specs.Words.{current_at, resource_at, resources_of, updates}
use Rattle.cf_effect.specs.World.{StackState}
use Rattle.cf_plan.specs.Accept.{held_as}
use Rattle.cf_plan.specs.Ends.{right_at}
use Rattle.cf_plan.specs.Forward.{plan_in, wanted_paths}
use Rattle.cf_plan.proofs.CreatedWhole.{right_with}
use Rattle.cf_plan.proofs.OneShape.{plan_paths}
use Rattle.cf_plan.proofs.Replaces.{is_certain, policies_never, replaces, unknown_never}
use Rattle.cf_plan.proofs.WholeFound.{IsFinished, current_is, evaluated as evaluated_so, none_marked, stays_current, whole_left}
use Rattle.cf_core.specs.Advancing.{IsAdvancing, IsAsBefore, IsSameThing, changes_begun, held_before_as}
use Rattle.cf_core.specs.Foretold.{AreMadeByCalls, AreTold, CompletedIsTold, ComesTrue, HasComeTrue, IsKeptAt, IsNewAt, IsSupersededAt, IsTold, IsUnchangedAt, TellsCreate, row_at}
use Rattle.cf_core.proofs.BackSteps.{is_of, not_in_both}
use Rattle.cf_core.proofs.HidCalls.{IsSaid, SameAt, said, same_at}
use Rattle.cf_core.proofs.HidSeen.{same_found, shape_before, shape_now, shape_stays}
use Rattle.cf_core.proofs.Lemmas.{any_in, bytes_same, found_one, in_any, in_back, in_front, in_map, list_any-append, none_false, none_if, same_bytes, some_is, some_of}
use Rattle.cf_core.proofs.Moving.{in_stage}
use Rattle.cf_core.proofs.ToldMade.{made_told}
use Rattle.cf_core.proofs.ToldRemoved.{IsRemoved, paths_of, removed_row_at}
use Rattle.cf_core.proofs.ToldRows.{shown_row, is_replacing}
use Rattle.cf_core.proofs.WholeKept.{becomes_own, cleans_done, completes, finished, none_open}

-- The paths of a whole map are those of its plan.
right_paths : (ws : List Wanted) (rs : List Right) → all_of right_of ws ≡ Some rs → map (λ r. r.path) rs ≡ map (λ w. w.path) ws
right_paths [] rs e = ap (λ (ps : List Right). map (λ r. r.path) ps) (sym (some_is [] rs e))
right_paths (w ∷ ws) rs e = by (known_of w.props) (all_of right_of ws) e (right_paths ws) where
  by : (k : Option (List (List ℕ × Data))) (o : Option (List Right)) → option_map_or (λ b. option_map (λ bs. b ∷ bs) o) (option_map (right_with w) k) None ≡ Some rs
      → ((qs : List Right) → o ≡ Some qs → map (λ r. r.path) qs ≡ map (λ v. v.path) ws) → map (λ r. r.path) rs ≡ w.path ∷ map (λ v. v.path) ws
  by None o h rest = let no : ⊥ = cc in absurd no
  by (Some ps) None h rest = let no : ⊥ = cc in absurd no
  by (Some ps) (Some qs) h rest = ap (λ (zs : List Right). map (λ r. r.path) zs) (sym (some_is (right_with w ps ∷ qs) rs h)) ∙ ap (λ zs. w.path ∷ zs) (rest qs refl)

rights_in : (p : Plan) (w : Whole) → whole_in p ≡ Some w → all_of right_of p.wanted ≡ Some w.wanted
rights_in p w = by p.flaws (all_of right_of p.wanted) (all_of right_output p.outputs) where
  by_exports : (rs : List Right) (os : List Output) (o : Option (List (List ℕ × List ℕ))) → whole_with rs os o ≡ Some w → Some rs ≡ Some w.wanted
  by_exports rs os None h = let no : ⊥ = cc in absurd no
  by_exports rs os (Some es) h = let v : Whole = record { wanted = rs; outputs = os; exports = es } in ap (λ (u : Whole). Some u.wanted) (some_is v w h)

  by : (fs : List Flaw) (o : Option (List Right)) (q : Option (List Output)) → unless_flawed fs (whole_from p o q) ≡ Some w → o ≡ Some w.wanted
  by (f ∷ fs) o q h = let no : ⊥ = cc in absurd no
  by [] None q h = let no : ⊥ = cc in absurd no
  by [] (Some rs) None h = let no : ⊥ = cc in absurd no
  by [] (Some rs) (Some os) h = by_exports rs os (all_of right_export p.exports) h

-- What a resource is stays as it is settled, but for its terms and whether it is superseded.
record IsLeftAs (h k : Held) : Type 0 where
  path : k.path ≡ h.path
  physical : k.physical ≡ h.physical
  props : k.props ≡ h.props
  attrs : k.attrs ≡ h.attrs
  unsure : k.unsure ≡ h.unsure

settled_as : (b : Bool) (o : Option Right) (h : Held) → IsLeftAs h (cond b (as_wanted o h) (record h { superseded = true }))
settled_as true None h = record { path = refl; physical = refl; props = refl; attrs = refl; unsure = refl }
settled_as true (Some w) h = record { path = refl; physical = refl; props = refl; attrs = refl; unsure = refl }
settled_as false o h = record { path = refl; physical = refl; props = refl; attrs = refl; unsure = refl }

-- equal properties are no difference
no_difference : (g : Schema) (old new : List (List ℕ × Data)) → old ≡ new → difference_of g old new ≡ Same
no_difference g old new e =
    ap (λ b. cond b Same (cond (any_differs g.create_only old new) Replace (cond (any_differs g.conditional old new) MayReplace Update))) (equal_same old new e)

-- The forward phase of a stack that advances is complete: each path has its resource, as the template says.
module _ (schemas : List Schema) (s : StackState) (source : Source) (a : IsAdvancing schemas s source) (f : IsFinished s source) where
  abbrev rows : List Row
  rows = (changes_begun schemas s source).rows

  abbrev whole : Whole
  whole = whole_now s

  abbrev settle : Held → Held
  settle h = settled_in (whole_now s) s h

  -- what it holds then
  abbrev left : List Held
  left = map (settled_in (whole_now s) s) (resources_of s)

  -- the paths of the template
  abbrev paths : List (List ℕ)
  paths = paths_of (resources_in (shape_of source (held_seen (held_before_as s))))

  paths_are : wanted_paths s ≡ paths
  paths_are =
      ap (λ g. map (λ (w : Wanted). w.path) (plan_in g (seen_in s.before) (seen_in s.before)).wanted) a.going
      ∙ plan_paths source (shape_of source (seen_in s.before)) (seen_in s.before) ∙ ap (λ (b : Shape). paths_of (resources_in b)) (shape_before schemas s source a)

  rights_are : map (λ r. r.path) whole.wanted ≡ paths
  rights_are =
      right_paths (plan_of source (seen_now s)).wanted whole.wanted (rights_in (plan_of source (seen_now s)) whole (evaluated_so s source f))
      ∙ plan_paths source (shape_of source (seen_now s)) (seen_now s) ∙ ap (λ (b : Shape). paths_of (resources_in b)) (shape_now schemas s source a)

  among : (path : List ℕ) (ps : List (List ℕ)) → In path ps → is_among path ps ≡ true
  among path ps i = any_in (bytes_eq path) path ps i (same_bytes path)

  right_among : (path : List ℕ) (w : Right) → right_at path whole ≡ Some w → is_among path paths ≡ true
  right_among path w e =
      let one = found_one (λ (r : Right). bytes_eq path r.path) whole.wanted w e in
      among path paths (subst (In path) rights_are (subst (λ p. In p (map (λ r. r.path) whole.wanted)) (sym (bytes_same path w.path one.1)) (in_map (λ (r : Right). r.path) w whole.wanted one.0)))

  as_left : (h : Held) → IsLeftAs h (settle h)
  as_left h = settled_as (is_physical_of h.physical (resource_at h.path s) && not h.superseded) (right_at h.path whole) h

  in_left : (h : Held) → In h (resources_of s) → In (settle h) left
  in_left h i = in_map (settled_in (whole_now s) s) h (resources_of s) i

  -- the resource of a path that the template wants is the one that is left there
  current_left : (path : List ℕ) → In path (wanted_paths s) → (h : Held) → In h (resources_of s) → path ≡ h.path → resource_at path s ≡ Some h
      → current_at path left ≡ Some (settle h)
  current_left path i h j same at =
      let stays = stays_current s source f h (ap (λ p. resource_at p s) (sym same) ∙ at) (subst (λ p. In p (wanted_paths s)) same i) in
      ap (λ p. current_at p left) (same ∙ sym (as_left h).path) ∙ (whole_left s source f).single (settle h) (in_left h j) stays

  -- any other one of the path is superseded
  other_left : (h m : Held) → resource_at h.path s ≡ Some m → bytes_eq h.physical m.physical ≡ false → (settle h).superseded ≡ true
  other_left h m at other =
      ap (λ o. (cond (is_physical_of h.physical o && not h.superseded) (as_wanted (right_at h.path whole) h) (record h { superseded = true })).superseded) at
      ∙ ap (λ b. (cond (b && not h.superseded) (as_wanted (right_at h.path whole) h) (record h { superseded = true })).superseded) other

  -- the resource that a path had before is still held there
  record IsStillHeld (path : List ℕ) (b : Held) : Type 0 where
    now : Held
    at : current_at path s.held ≡ Some now
    same : IsSameThing b now
    in_before : In b s.before
    in_held : In now s.held
    path_before : path ≡ b.path
    path_now : path ≡ now.path

  still_held : (path : List ℕ) (b : Held) → current_at path s.before ≡ Some b → IsStillHeld path b
  still_held path b e = by (current_at path s.held) refl (subst (λ o. SameAt o (current_at path s.held)) e (same_at path s.before s.held a.held)) where
    by : (o : Option Held) → current_at path s.held ≡ o → SameAt (Some b) o → IsStillHeld path b
    by None q w = absurd w
    by (Some h) q w =
        let was = current_is path s.before b e in
        let is = current_is path s.held h q in
        record { now = h; at = q; same = w; in_before = was.0; in_held = is.0; path_before = was.1; path_now = is.1 }

  none_held : (path : List ℕ) → current_at path s.before ≡ None → current_at path s.held ≡ None
  none_held path e = by (current_at path s.held) (subst (λ o. SameAt o (current_at path s.held)) e (same_at path s.before s.held a.held)) where
    by : (o : Option Held) → SameAt None o → o ≡ None
    by None w = refl
    by (Some h) w = absurd w

  superseded_left : (path : List ℕ) (b : Held) → current_at path s.before ≡ Some b → (h : IsStillHeld path b) → (settle h.now).superseded ≡ true
      → IsSupersededAt s.before left path
  superseded_left path b e h old = (b, settle h.now, e, in_left h.now (in_front h.now s.held s.made h.in_held), (as_left h.now).physical ∙ h.same.physical, old)

  -- A path that the template doesn't want: nothing is left there but what is superseded.
  module _ (path : List ℕ) (unwanted : is_among path paths ≡ false) where
    none_left : current_at path left ≡ None
    none_left = none_if (current_at path left) (λ r e.
        let c = current_is path left r e in
        let w = (whole_left s source f).held r c.0 c.2 in
        true≢false (sym (right_among path w.0 (ap (λ p. right_at p whole) c.1 ∙ w.1)) ∙ unwanted))

    removed_left : (b : Held) (h : IsStillHeld path b) → (settle h.now).superseded ≡ true
    removed_left b h = by (settle h.now).superseded refl where
      by : (c : Bool) → (settle h.now).superseded ≡ c → c ≡ true
      by true e = refl
      by false e =
          let w = (whole_left s source f).held (settle h.now) (in_left h.now (in_front h.now s.held s.made h.in_held)) e in
          absurd (true≢false (sym (right_among path w.0 (ap (λ p. right_at p whole) (h.path_now ∙ sym (as_left h.now).path) ∙ w.1)) ∙ unwanted))

    come_unwanted : HasComeTrue s.before left path (row_at path rows)
    come_unwanted =
        by (current_at path s.before) refl (row_at path rows)
        (subst (λ o. IsRemoved o (row_at path rows)) (same_found path s.before) (removed_row_at schemas (held_before_as s) source path unwanted))
      where
        by : (o : Option Held) → current_at path s.before ≡ o → (row : Option Row) → IsRemoved (option_map held_as o) row → HasComeTrue s.before left path row
        by None e None r = inl (e, none_left)
        by None e (Some row) r = absurd r
        by (Some b) e None r = absurd r
        by (Some b) e (Some row) r =
            let h = still_held path b e in
            subst (λ k. ComesTrue s.before left path k row.replacement) (sym r) (none_left, superseded_left path b e h (removed_left b h))

  -- A path that the template wants: its row tells what has become of it.
  module _ (told : AreTold schemas s source) (called : AreMadeByCalls s) (path : List ℕ) (i : In path (wanted_paths s)) where
    -- what is made there is new, and is left there
    made_new : (m : Held) → current_at path s.made ≡ Some m → IsNewAt s.before left path
    made_new m q =
        let c = current_is path s.made m q in (
          settle m,
          current_left path i m (in_back m s.held s.made c.0) c.1 (ap (λ o. option_or o (current_at path s.held)) q),
          λ b j same.
              let h = is_of a.held j in
              not_in_both s.held s.made f.ids h.0 m h.1 c.0 (h.2.physical ∙ same ∙ (as_left m).physical),
        )

    -- and what was held there is superseded
    made_instead : (m : Held) → current_at path s.made ≡ Some m → (b : Held) → current_at path s.before ≡ Some b → IsSupersededAt s.before left path
    made_instead m q b e =
        let c = current_is path s.made m q in
        let h = still_held path b e in
        superseded_left path b e h (other_left h.now m (ap (λ p. resource_at p s) (sym h.path_now) ∙ ap (λ o. option_or o (current_at path s.held)) q)
        (none_false (bytes_eq h.now.physical m.physical) (λ t. not_in_both s.held s.made f.ids h.now m h.in_held c.0 (bytes_same h.now.physical m.physical t))))

    -- where nothing is made, what is held there is left there
    held_left : current_at path s.made ≡ None → (b : Held) (h : IsStillHeld path b) → current_at path left ≡ Some (settle h.now)
    held_left none b h =
        current_left path i h.now (in_front h.now s.held s.made h.in_held) h.path_now (ap (λ o. option_or o (current_at path s.held)) none ∙ h.at)

    kept_left : current_at path s.made ≡ None → (b : Held) → current_at path s.before ≡ Some b → IsKeptAt s.before left path
    kept_left none b e = let h = still_held path b e in (b, settle h.now, e, held_left none b h, (as_left h.now).physical ∙ h.same.physical)

    -- nothing is made where the row tells no create
    none_made : (row : Option Row) → row_at path rows ≡ row → (TellsCreate row → ⊥) → current_at path s.made ≡ None
    none_made row is never = none_if (current_at path s.made) (λ m q.
        let c = current_is path s.made m q in
        never (subst TellsCreate (ap (λ p. row_at p rows) (sym c.1) ∙ is) (made_told schemas s source told called m c.0)))

    -- nothing is changed where it tells no update
    as_before : (row : Option Row) → row_at path rows ≡ row → ((id : List ℕ) (props : List (List ℕ × Data)) → IsTold row (request.Update id props) → ⊥)
        → (b : Held) (h : IsStillHeld path b) → IsAsBefore b h.now
    as_before row is never b h =
        a.unchanged b h.now h.in_before h.in_held h.same.physical (none_false (was_updated b.physical s) (λ t.
        let c = some_of (λ (c : Call). goes_forward c.status && (updates b.physical c.request && succeeded c)) s.ledger t in
        let asks = second_so (goes_forward c.one.status) (updates b.physical c.one.request && succeeded c.one) c.passes in
        let updates_it : updates b.physical c.one.request ≡ true = first_so (updates b.physical c.one.request) (succeeded c.one) asks in
        untold c.one.request updates_it
        (subst (λ o. IsTold o c.one.request) (ap (λ p. row_at p rows) (a.at_path c.one b c.of_list h.in_before updates_it ∙ sym h.path_before) ∙ is) (told c.one c.of_list))))
      where
        untold : (r : Request) → updates b.physical r ≡ true → IsTold row r → ⊥
        untold (request.Update id props) u t = never id props t
        untold (request.Create kind props) u t = true≢false (sym u)
        untold (request.Delete id) u t = true≢false (sym u)

    -- the resource of the path, and what the template says of it
    abbrev one : Held
    one = (f.each path i).0

    one_at : resource_at path s ≡ Some one
    one_at = (f.each path i).1

    it : IsSaid schemas s source a path one.kind one.props
    it = said schemas s source a path one.kind one.props (f.each path i).3

    abbrev wanted : Wanted
    wanted = wanted_of (it.member, evaluated it.was)

    row_is : row_at path rows ≡ row_for schemas (option_map held_as (current_at path s.before)) wanted
    row_is =
        ap (λ p. row_at p rows) it.at ∙ it.told
        ∙ ap (λ o. row_for schemas o wanted) (ap (λ p. resource_held p (held_before_as s)) (sym it.at) ∙ same_found path s.before)

    -- where nothing was held, it was made
    come_added : current_at path s.before ≡ None → IsNewAt s.before left path
    come_added e = by (current_at path s.made) refl where
      by : (o : Option Held) → current_at path s.made ≡ o → IsNewAt s.before left path
      by (Some m) q = made_new m q
      by None q =
          let no : None ≡ Some one = sym (ap (λ o. option_or o (current_at path s.held)) q ∙ none_held path e) ∙ one_at in
          let never : ⊥ = cc in absurd never

    -- Where a resource was held there.
    module _ (b : Held) (e : current_at path s.before ≡ Some b) where
      abbrev old : HeldAt
      old = held_as b

      abbrev details : List Detail
      details = details_for schemas old wanted

      -- the row, by whether there is none, a detail is certain, and one may replace
      abbrev shown : Bool → Bool → Bool → Option Row
      shown = shown_row old wanted details

      come_unchanged : row_at path rows ≡ None → IsUnchangedAt s.before left path
      come_unchanged is =
          let h = still_held path b e in
          let none = none_made None is (λ t. t.2) in
          let same = as_before None is (λ id props t. t) b h in
          let k = as_left h.now in
          inr (b, settle h.now, e, held_left none b h, k.physical ∙ h.same.physical, record { props = k.props ∙ same.props; attrs = k.attrs ∙ same.attrs; unsure = k.unsure ∙ same.unsure })

      -- what differs for certain is no longer held as it was
      certain_differs : list_any is_certain (property_details (found wanted.kind schemas) b.props it.was) ≡ true → b.props ≡ one.props → ⊥
      certain_differs c same = by (found wanted.kind schemas) c where
        by : (g : Option Schema) → list_any is_certain (property_details g b.props it.was) ≡ true → ⊥
        by None k = true≢false (sym k ∙ unknown_never b.props it.was)
        by (Some g) k =
            let no : Same ≡ Replace = sym (no_difference g b.props one.props same) ∙ replaces g b.props it.was it.now one.props it.becomes it.known k in
            let never : ⊥ = cc in never

      certain_first : list_any is_certain details ≡ true → list_any is_certain (property_details (found wanted.kind schemas) b.props it.was) ≡ true
      certain_first c = by (list_any is_certain (property_details (found wanted.kind schemas) b.props it.was)) refl where
        by : (t : Bool) → list_any is_certain (property_details (found wanted.kind schemas) b.props it.was) ≡ t → t ≡ true
        by true q = refl
        by false q =
            sym (ap (λ t. t || list_any is_certain (policy_details old wanted)) q ∙ policies_never old wanted)
            ∙ sym (list_any-append is_certain (property_details (found wanted.kind schemas) b.props it.was) (policy_details old wanted)) ∙ c

      come_replaced : (t : Bool) → list_any is_certain details ≡ true → row_at path rows ≡ shown false true t → IsNewAt s.before left path × IsSupersededAt s.before left path
      come_replaced t c is = by (current_at path s.made) refl where
        by : (o : Option Held) → current_at path s.made ≡ o → IsNewAt s.before left path × IsSupersededAt s.before left path
        by (Some m) q = (made_new m q, made_instead m q b e)
        by None q =
            let h = still_held path b e in
            let same : one ≡ h.now = some_is one h.now (sym one_at ∙ ap (λ o. option_or o (current_at path s.held)) q ∙ h.at) in
            let kept = as_before (shown false true t) is (λ id props r. r) b h in
            absurd (certain_differs (certain_first c) (sym kept.props ∙ ap (λ (z : Held). z.props) (sym same)))

      come_either : IsKeptAt s.before left path ⊎ (IsNewAt s.before left path × IsSupersededAt s.before left path)
      come_either = by (current_at path s.made) refl where
        by : (o : Option Held) → current_at path s.made ≡ o → IsKeptAt s.before left path ⊎ (IsNewAt s.before left path × IsSupersededAt s.before left path)
        by (Some m) q = inr (made_new m q, made_instead m q b e)
        by None q = inl (kept_left q b e)

      come_modified : (n c t : Bool) → list_any is_certain details ≡ c → row_at path rows ≡ shown n c t → HasComeTrue s.before left path (shown n c t)
      come_modified true c t k is = come_unchanged is
      come_modified false true t k is = come_replaced t k is
      come_modified false false true k is = come_either
      come_modified false false false k is = kept_left (none_made (shown false false false) is (λ r. r.2)) b e

    come_wanted : HasComeTrue s.before left path (row_at path rows)
    come_wanted = by (current_at path s.before) refl row_is where
      by : (o : Option Held) → current_at path s.before ≡ o → row_at path rows ≡ row_for schemas (option_map held_as o) wanted
          → HasComeTrue s.before left path (row_at path rows)
      by None e is = subst (HasComeTrue s.before left path) (sym is) (e, come_added e)
      by (Some b) e is =
          subst (HasComeTrue s.before left path) (sym is)
          (come_modified b e (is_empty (details b e) && not b.unsure) (list_any is_certain (details b e)) (list_any is_replacing (details b e)) refl is)

  come_true : AreTold schemas s source → AreMadeByCalls s → (path : List ℕ) → HasComeTrue s.before left path (row_at path rows)
  come_true told called path = by (is_among path paths) refl where
    by : (b : Bool) → is_among path paths ≡ b → HasComeTrue s.before left path (row_at path rows)
    by true e =
        let p = in_any (bytes_eq path) paths e in
        come_wanted told called path (subst (In path) (sym paths_are) (subst (λ q. In q paths) (sym (bytes_same path p.0 p.2)) p.1))
    by false e = come_unwanted path e

-- the same, where these are held and made
abbrev with_lists : StackState → List Held → List Held → StackState
with_lists s hs ms = record s { held = hs; made = ms }

abbrev ComesWith : StackState → List ℕ → Option Row → List Held → List Held → Type 0
ComesWith s path row hs ms = HasComeTrue s.before (map (settled_in (whole_now (with_lists s hs ms)) (with_lists s hs ms)) (hs ++ ms)) path row

pub completed_told : CompletedIsTold
completed_told schemas x out (entry.Phase number phase.Clean why) name s t source w ends differs a told called path =
    let e : Entry = entry.Phase number phase.Clean why in
    let to_it = becomes_own x e name s t differs refl w.becomes in
    let (well, done) = cleans_done schemas name x s why (in_stage schemas x out name s e number to_it.0 w.may).2.1 in
    subst (λ (v : StackState). HasComeTrue s.before v.held path (row_at path (changes_begun schemas s source).rows)) to_it.1
    (come_true schemas s source a (finished schemas s source a name x (shape_stays schemas s source a) w.fits well done) told called path)
completed_told schemas x out (entry.Done number status.CreateComplete failed) name s t source w ends differs a told called path =
    let e : Entry = entry.Done number status.CreateComplete failed in
    let to_it = becomes_own x e name s t differs refl w.becomes in
    let (well, done) = completes schemas name x s s.status (in_stage schemas x out name s e number to_it.0 w.may).2.2 in
    let quiet = none_open schemas s source a done in
    let true_so = come_true schemas s source a (finished schemas s source a name x (shape_stays schemas s source a) w.fits well done) told called path in
    subst (λ (v : StackState). HasComeTrue s.before v.held path (row_at path (changes_begun schemas s source).rows)) to_it.1
    (subst (ComesWith s path (row_at path (changes_begun schemas s source).rows) (map (marked s.tokens) s.held)) (none_marked s.tokens s.made quiet)
    (subst (λ hs. ComesWith s path (row_at path (changes_begun schemas s source).rows) hs s.made) (none_marked s.tokens s.held quiet) true_so))
completed_told schemas x out e name s t source w ends differs a told called path = absurd ends
