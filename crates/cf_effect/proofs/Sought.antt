-- Resources of a source by their places, and what their properties come to.
use Rattle.std.proofs.Common.{position, ◌≡◌, ℕ, zero, suc, ◌<◌, ◌≤◌, ◌||◌, not, Bool, true, false, List, [], ◌∷◌, ◌++◌, length, map, set, find, Option, Some, None, Result, Ok, Err, IfOk, option_map, refl, ap, sym, ◌∙◌, subst, arith, cond, true≢false, inl, inr, ◌⊎◌}
use Rattle.std.specs.Prelude.{fold, is_some}
use Rattle.std.specs.List.{AllByRecursion, cons_option, filter_map, list_any, slice_get}
use Rattle.std.specs.Option.{option_and_then, option_map_or, option_or}
use Rattle.std.specs.Str.{bytes_eq}
use Rattle.std.proofs.lemmas.Bool.{and_parts, cases_lt, not-true}
use Rattle.std.proofs.lemmas.List.{length-map, length-set}
use Rattle.std.proofs.lemmas.Option.{none-some, same_Some, slice_get-map, slice_get_within}
use Rattle.std.proofs.lemmas.Slice.Eq.{bytes_eq-Decides}
use Rattle.cf_tree.specs.Keys.{value_at}
use Rattle.cf_tree.specs.Lists.{is_among}
use Rattle.cf_tree.specs.Named.{all_differ}
use Rattle.cf_tree.specs.declared.source.Source.{Source}
use Rattle.cf_desired.specs.declared.wanted.Evaluated.{Evaluated}
use Rattle.cf_desired.specs.Plan.{props_at}
use Rattle.cf_desired.specs.Seeing.{Seen, SeenAt, by_names}
use Rattle.cf_desired.specs.Shape.{shape_of}
use Rattle.cf_desired.specs.Stays.{AgreeAt}
use Rattle.cf_desired.specs.Valued.{resources_in}
use Rattle.cf_desired.specs.Work.{Member}
use Rattle.cf_desired.proofs.Apart.{members_apart}
use Rattle.cf_desired.proofs.NeedsMatter.{needs_suffice}
use Rattle.cf_effect.specs.declared.findings.Findings.{Findings}
use Rattle.cf_effect.specs.declared.findings.Found.{Found}
use Rattle.cf_effect.specs.declared.held.Held.{Held}
use Rattle.cf_effect.specs.declared.layout.Layout.{Layout}
use Rattle.cf_effect.specs.declared.layout.Placed.{Placed}
use Rattle.cf_effect.specs.Begin.{seen_in, shown_under}
use Rattle.cf_effect.specs.End.{seen_now}
use Rattle.cf_effect.specs.Findings.{AreFindings, FindsAt, IsFound, place_among, props_now}
use Rattle.cf_effect.specs.declared.state.State.{State}
use Rattle.cf_effect.specs.Outset.{Outset}
use Rattle.cf_effect.specs.State.{before_in, source_in, state_of}
use Rattle.cf_effect.specs.Following.{IsFoundBy, IsNothing, IsPlaceIn, kept_at, resource_in, seen_of_places, stands_at}
use Rattle.cf_effect.specs.Layout.{AreRows, is_row_of, source_members, path_at}
use Rattle.cf_effect.specs.Words.{current_at, is_current_at, resource_at}
use Rattle.cf_effect.specs.World.{StackState}
use Rattle.cf_effect.proofs.Closed.{any_found}
use Rattle.cf_effect.proofs.Places.{first_there, is_there, passes_at}
use Rattle.cf_effect.proofs.Shown.{needs_shown}

abbrev pub paths_in : List Member → List (List ℕ)
paths_in ms = map (λ m. m.path) ms

pub same_bytes : (p q : List ℕ) → p ≡ q → bytes_eq p q ≡ true
same_bytes p q e = (bytes_eq-Decides p q).1 e

pub any_at : (test : List ℕ → Bool) (ms : List Member) (at : ℕ) (m : Member) → slice_get ms at ≡ Some m → test m.path ≡ true → list_any test (paths_in ms) ≡ true
any_at test [] at m h t = absurd (none-some m h)
any_at test (x ∷ ms) zero m h t =
    let same : x ≡ m = same_Some x m h in
    ap (λ b. b || list_any test (paths_in ms)) (ap (λ (y : Member). test y.path) same ∙ t)
any_at test (x ∷ ms) (suc at) m h t = by (test x.path) (any_at test ms at m h t) where
  by : (b : Bool) → list_any test (paths_in ms) ≡ true → (b || list_any test (paths_in ms)) ≡ true
  by true g = refl
  by false g = g

-- no other one behind the first has its path
not_again : (x : Member) (ms : List Member) (at : ℕ) (m : Member) → all_differ bytes_eq (paths_in (x ∷ ms)) ≡ true → slice_get ms at ≡ Some m → x.path ≡ m.path → ⊥
not_again x ms at m d h e =
    true≢false (sym (any_at (bytes_eq x.path) ms at m h (same_bytes x.path m.path e)) ∙ not-true (list_any (bytes_eq x.path) (paths_in ms)) (and_parts (not (list_any (bytes_eq x.path) (paths_in ms))) (all_differ bytes_eq (paths_in ms)) d).0)

behind : (x : Member) (ms : List Member) → all_differ bytes_eq (paths_in (x ∷ ms)) ≡ true → all_differ bytes_eq (paths_in ms) ≡ true
behind x ms d = (and_parts (not (list_any (bytes_eq x.path) (paths_in ms))) (all_differ bytes_eq (paths_in ms)) d).1

pub one_place : (ms : List Member) (i j : ℕ) (a b : Member) → all_differ bytes_eq (paths_in ms) ≡ true → slice_get ms i ≡ Some a → slice_get ms j ≡ Some b → a.path ≡ b.path → i ≡ j
one_place [] i j a b d g h e = absurd (none-some a g)
one_place (x ∷ ms) zero zero a b d g h e = refl
one_place (x ∷ ms) zero (suc j) a b d g h e = absurd (not_again x ms j b d h (ap (λ (y : Member). y.path) (same_Some x a g) ∙ e))
one_place (x ∷ ms) (suc i) zero a b d g h e = absurd (not_again x ms i a d g (ap (λ (y : Member). y.path) (same_Some x b h) ∙ sym e))
one_place (x ∷ ms) (suc i) (suc j) a b d g h e = ap suc (one_place ms i j a b (behind x ms d) g h e)

pub first_named : (ms : List Member) (at : ℕ) (m : Member) → all_differ bytes_eq (paths_in ms) ≡ true → slice_get ms at ≡ Some m → find (λ n. bytes_eq m.path n.path) ms ≡ Some m
first_named [] at m d h = absurd (none-some m h)
first_named (x ∷ ms) zero m d h =
    let same : x ≡ m = same_Some x m h in
    ap (λ b. cond b (Some x) (find (λ n. bytes_eq m.path n.path) ms)) (same_bytes m.path x.path (ap (λ (y : Member). y.path) (sym same))) ∙ h
first_named (x ∷ ms) (suc at) m d h = by (bytes_eq m.path x.path) refl (first_named ms at m (behind x ms d) h) where
  by : (b : Bool) → bytes_eq m.path x.path ≡ b → find (λ n. bytes_eq m.path n.path) ms ≡ Some m → cond b (Some x) (find (λ n. bytes_eq m.path n.path) ms) ≡ Some m
  by true e g = absurd (not_again x ms at m d h (sym ((bytes_eq-Decides m.path x.path).0 e)))
  by false e g = g

-- the paths of a stack's source differ
pub apart_in : (s : StackState) → all_differ bytes_eq (paths_in (source_members s)) ≡ true
apart_in s = by s.going where
  by : (o : Option Source) → all_differ bytes_eq (paths_in (option_map_or (λ source. resources_in (shape_of source (seen_in s.before))) o [])) ≡ true
  by None = refl
  by (Some source) = members_apart source (seen_in s.before)

-- a path's properties rest on what is seen of its needs
agree_at : (ns : List (List ℕ)) (a b : Seen) → ((q : List ℕ) → is_among q ns ≡ true → value_at q b ≡ value_at q a) → AgreeAt ns a b
agree_at ns a b h q g = (ap (option_and_then (λ (x : SeenAt). x.physical)) (h q g), ap (option_and_then (λ (x : SeenAt). x.attrs)) (h q g))

pub props_rest : (source : Source) (before a b : Seen) (at : ℕ) (m : Member) → slice_get (resources_in (shape_of source before)) at ≡ Some m
    → ((q : List ℕ) → is_among q m.needs ≡ true → value_at q b ≡ value_at q a)
    → props_at source (shape_of source before) b m.path ≡ props_at source (shape_of source before) a m.path
props_rest source before a b at m h g =
    needs_suffice source before a b m.path m (first_named (resources_in (shape_of source before)) at m (members_apart source before) h) (agree_at m.needs a b g)

-- what two stacks of one source show alike of a path's needs
pub props_stay : (s t : StackState) (at : ℕ) (m : Member) → t.going ≡ s.going → t.before ≡ s.before → slice_get (source_members s) at ≡ Some m
    → ((q : List ℕ) → is_among q m.needs ≡ true → value_at q (seen_now t) ≡ value_at q (seen_now s)) → props_now t m.path ≡ props_now s m.path
props_stay s t at m going before h g =
    ap (option_and_then (λ source. props_at source (shape_of source (seen_in t.before)) (seen_now t) m.path)) going
    ∙ ap (λ (hs : List Held). option_and_then (λ source. props_at source (shape_of source (seen_in hs)) (seen_now t) m.path) s.going) before
    ∙ by s.going h where
      by : (o : Option Source) → slice_get (option_map_or (λ source. resources_in (shape_of source (seen_in s.before))) o []) at ≡ Some m
          → option_and_then (λ source. props_at source (shape_of source (seen_in s.before)) (seen_now t) m.path) o
          ≡ option_and_then (λ source. props_at source (shape_of source (seen_in s.before)) (seen_now s) m.path) o
      by None k = refl
      by (Some source) k = props_rest source (seen_in s.before) (seen_now s) (seen_now t) at m k g

-- rows and members at one place
pub row_at : (ms : List Member) (l : Layout) → AreRows ms l → (at : ℕ) (r : Placed) → slice_get l.rows.items at ≡ Some r
    → (m : Member) × (slice_get ms at ≡ Some m) × (r.path ≡ m.path) × (map (path_at l.rows.items) r.needs.items ≡ m.needs) × AllByRecursion (λ k. k < at) r.needs.items
row_at ms l a at r h = by (slice_get ms at) refl where
  paths : Some r.path ≡ option_map (λ (m : Member). m.path) (slice_get ms at)
  paths =
      sym (ap (option_map (λ (x : Placed). x.path)) h) ∙ sym (slice_get-map (λ (x : Placed). x.path) l.rows.items at) ∙ ap (λ (ps : List (List ℕ)). slice_get ps at) a.paths
      ∙ slice_get-map (λ (m : Member). m.path) ms at

  needs : Some (map (path_at l.rows.items) r.needs.items) ≡ option_map (λ (m : Member). m.needs) (slice_get ms at)
  needs =
      sym (ap (option_map (λ (x : Placed). map (path_at l.rows.items) x.needs.items)) h) ∙ sym (slice_get-map (λ (x : Placed). map (path_at l.rows.items) x.needs.items) l.rows.items at)
      ∙ ap (λ (ps : List (List (List ℕ))). slice_get ps at) a.needs ∙ slice_get-map (λ (m : Member). m.needs) ms at

  by : (o : Option Member) → slice_get ms at ≡ o
      → (m : Member) × (o ≡ Some m) × (r.path ≡ m.path) × (map (path_at l.rows.items) r.needs.items ≡ m.needs) × AllByRecursion (λ k. k < at) r.needs.items
  by None e = absurd (none-some r.path (sym (paths ∙ ap (option_map (λ (m : Member). m.path)) e)))
  by (Some m) e = (
    m,
    refl,
    same_Some r.path m.path (paths ∙ ap (option_map (λ (x : Member). x.path)) e),
    same_Some (map (path_at l.rows.items) r.needs.items) m.needs (needs ∙ ap (option_map (λ (x : Member). x.needs)) e),
    subst (AllByRecursion (λ k. k < at)) (ap (λ o. option_map_or (λ (x : Placed). x.needs.items) o []) h) (a.earlier at),
  )

-- the resource at a place is that of the path there
resource_by : (s : StackState) (l : Layout) (a : AreRows (source_members s) l) (k : ℕ) → k < length l.rows.items → resource_in s k ≡ resource_at (path_at l.rows.items k) s
resource_by s l a k h = by (slice_get (source_members s) k) refl where
  paths : option_map (λ (x : Placed). x.path) (slice_get l.rows.items k) ≡ option_map (λ (m : Member). m.path) (slice_get (source_members s) k)
  paths =
      sym (slice_get-map (λ (x : Placed). x.path) l.rows.items k) ∙ ap (λ (ps : List (List ℕ)). slice_get ps k) a.paths
      ∙ slice_get-map (λ (m : Member). m.path) (source_members s) k

  or_blank : (o : Option Placed) → option_map_or (λ (x : Placed). x.path) o [] ≡ option_map_or (λ (p : List ℕ). p) (option_map (λ (x : Placed). x.path) o) []
  or_blank None = refl
  or_blank (Some r) = refl

  same_count : length l.rows.items ≡ length (source_members s)
  same_count = sym (length-map l.rows.items (λ (x : Placed). x.path)) ∙ ap length a.paths ∙ length-map (source_members s) (λ (m : Member). m.path)

  by : (o : Option Member) → slice_get (source_members s) k ≡ o → option_and_then (λ m. resource_at m.path s) o ≡ resource_at (path_at l.rows.items k) s
  by None e = absurd (absent (cases_lt k (length (source_members s)))) where
    absent : (k < length (source_members s)) ⊎ (length (source_members s) ≤ k) → ⊥
    absent (inl under) = not_none (slice_get (source_members s) k) e (there (source_members s) k under) where
      not_none : (o : Option Member) → o ≡ None → is_some o ≡ true → ⊥
      not_none o n t = true≢false (sym t ∙ ap is_some n)

      there : (ms : List Member) (j : ℕ) → j < length ms → is_some (slice_get ms j) ≡ true
      there [] j u = absurd (omega (arith, u))
      there (x ∷ ms) zero u = refl
      there (x ∷ ms) (suc j) u = there ms j (omega (arith, u))
    absent (inr over) = omega (arith, over, h, same_count)
  by (Some m) e =
      ap (λ p. resource_at p s)
      (sym (or_blank (slice_get l.rows.items k) ∙ ap (λ o. option_map_or (λ (p : List ℕ). p) o []) (paths ∙ ap (option_map (λ (x : Member). x.path)) e)))

resources_by : (s : StackState) (l : Layout) (a : AreRows (source_members s) l) (at : ℕ) → at ≤ length l.rows.items → (ks : List ℕ) → AllByRecursion (λ k. k < at) ks
    → filter_map (resource_in s) ks ≡ filter_map (λ p. resource_at p s) (map (path_at l.rows.items) ks)
resources_by s l a at m [] h = refl
resources_by s l a at m (k ∷ ks) h =
    ap (λ o. cons_option o (filter_map (resource_in s) ks)) (resource_by s l a k (omega (arith, m, h.0)))
    ∙ ap (cons_option (resource_at (path_at l.rows.items k) s)) (resources_by s l a at m ks h.1)

-- what a row's properties come to over the resources of what it needs
pub row_found : (s : StackState) (source : Source) (l : Layout) (at : ℕ) (r : Placed) → s.going ≡ Some source → AreRows (source_members s) l → slice_get l.rows.items at ≡ Some r
    → (m : Member) → slice_get (source_members s) at ≡ Some m
    → props_at source (shape_of source (seen_in s.before)) (seen_of_places s r.needs.items) r.path ≡ props_now s m.path
row_found s source l at r going a h m is =
    let it = row_at (source_members s) l a at r h in
    let same : it.0 ≡ m = same_Some it.0 m (sym it.1 ∙ is) in
    let needs : map (path_at l.rows.items) r.needs.items ≡ m.needs = it.3 ∙ ap (λ (x : Member). x.needs) same in
    let within = slice_get_within l.rows.items at r h in
    let small : seen_of_places s r.needs.items ≡ by_names (map shown_under (filter_map (λ p. resource_at p s) m.needs)) =
    ap (λ hs. by_names (map shown_under hs)) (resources_by s l a at (omega (arith, within)) r.needs.items it.4 ∙ ap (filter_map (λ p. resource_at p s)) needs) in
    let place : slice_get (resources_in (shape_of source (seen_in s.before))) at ≡ Some m =
    ap (λ o. slice_get (option_map_or (λ g. resources_in (shape_of g (seen_in s.before))) o []) at) (sym going) ∙ is in
    ap (λ p. props_at source (shape_of source (seen_in s.before)) (seen_of_places s r.needs.items) p) (it.2 ∙ ap (λ (x : Member). x.path) same)
    ∙ ap (λ x. props_at source (shape_of source (seen_in s.before)) x m.path) small
    ∙ props_rest source (seen_in s.before) (seen_now s) (by_names (map shown_under (filter_map (λ p. resource_at p s) m.needs))) at m place (λ q g. needs_shown s q m.needs g)
    ∙ ap (option_and_then (λ g. props_at g (shape_of g (seen_in s.before)) (seen_now s) m.path)) (sym going)

-- where the resource at a place stands
abbrev no_place : Option ℕ → Option ℕ
no_place o = o

pub resource_there : (s : StackState) (f : Findings) → AreFindings s f → (at : ℕ)
    → option_or (option_and_then (slice_get s.made) (kept_at f.made.items at)) (option_and_then (slice_get s.held) (kept_at f.held.items at)) ≡ resource_in s at
resource_there s f a at =
    ap (λ os. option_or (option_and_then (slice_get s.made) (kept_at os at)) (option_and_then (slice_get s.held) (kept_at f.held.items at))) a.made
    ∙ ap (λ os. option_or (option_and_then (slice_get s.made) (kept_at (map (λ m. place_among m.path s.made) (source_members s)) at)) (option_and_then (slice_get s.held) (kept_at os at))) a.held
    ∙ ap (λ o. option_or (option_and_then (slice_get s.made) (option_and_then no_place o)) (option_and_then (slice_get s.held) (kept_at (map (λ m. place_among m.path s.held) (source_members s)) at)))
    (slice_get-map (λ m. place_among m.path s.made) (source_members s) at)
    ∙ ap (λ o. option_or (option_and_then (slice_get s.made) (option_and_then no_place (option_map (λ m. place_among m.path s.made) (slice_get (source_members s) at)))) (option_and_then (slice_get s.held) (option_and_then no_place o)))
    (slice_get-map (λ m. place_among m.path s.held) (source_members s) at)
    ∙ by (slice_get (source_members s) at) where
      by : (o : Option Member)
          → option_or (option_and_then (slice_get s.made) (option_and_then no_place (option_map (λ m. place_among m.path s.made) o)))
          (option_and_then (slice_get s.held) (option_and_then no_place (option_map (λ m. place_among m.path s.held) o)))
          ≡ option_and_then (λ m. resource_at m.path s) o
      by None = refl
      by (Some m) =
          ap (λ o. option_or o (option_and_then (slice_get s.held) (place_among m.path s.held))) (first_there (is_current_at m.path) s.made)
          ∙ ap (option_or (current_at m.path s.made)) (first_there (is_current_at m.path) s.held)

-- one finding more
set_read : {A : Type 0} (xs : List A) (i j : ℕ) (x y : A) → slice_get (set xs i y) j ≡ Some x → ((j ≡ i) × (y ≡ x)) ⊎ (slice_get xs j ≡ Some x)
set_read [] i j x y h = inr h
set_read (z ∷ xs) zero zero x y h = inl (refl, same_Some y x h)
set_read (z ∷ xs) zero (suc j) x y h = inr h
set_read (z ∷ xs) (suc i) zero x y h = inr h
set_read (z ∷ xs) (suc i) (suc j) x y h = elim (set_read xs i j x y h) [ inl e ↦ inl (ap suc e.0, e.1) | inr e ↦ inr e ]

pub found_more : (s : StackState) (f g : Findings) (at : ℕ) (e : Found) → AreFindings s f → g.made ≡ f.made → g.held ≡ f.held → g.found.items ≡ set f.found.items at (Some e)
    → ((m : Member) → slice_get (source_members s) at ≡ Some m → IsFound s m.path e) → AreFindings s g
found_more s f g at e a made held found is = record {
  made = ap (λ v. v.items) made ∙ a.made;
  held = ap (λ v. v.items) held ∙ a.held;
  count = ap length found ∙ length-set f.found.items at (Some e) ∙ a.count;
  found = λ j m x h k. by j m x h (set_read f.found.items at j (Some x) (Some e) (ap (λ xs. slice_get xs j) (sym found) ∙ k));
} where
  by : (j : ℕ) (m : Member) (x : Found) → slice_get (source_members s) j ≡ Some m → ((j ≡ at) × (Some e ≡ Some x)) ⊎ (slice_get f.found.items j ≡ Some (Some x)) → IsFound s m.path x
  by j m x h (inl both) = subst (λ y. IsFound s m.path y) (same_Some e x both.1) (is m (ap (λ k. slice_get (source_members s) k) (sym both.0) ∙ h))
  by j m x h (inr k) = a.found j m x h k

pub kept_same : (s : StackState) (f g : Findings) → AreFindings s f → g.made ≡ f.made → g.held ≡ f.held → g.found ≡ f.found → AreFindings s g
kept_same s f g a made held found = record {
  made = ap (λ v. v.items) made ∙ a.made;
  held = ap (λ v. v.items) held ∙ a.held;
  count = ap (λ v. length v.items) found ∙ a.count;
  found = λ at m e h k. a.found at m e h (ap (λ v. slice_get v.items at) (sym found) ∙ k);
}

-- findings of which nothing is worked out
pub nothing_more : (xs : List (Option Found)) → IsNothing xs → IsNothing (xs ++ None ∷ [])
nothing_more [] n zero e h = none-some e (same_Some None (Some e) h)
nothing_more [] n (suc at) e h = none-some (Some e) h
nothing_more (x ∷ xs) n zero e h = n 0 e h
nothing_more (x ∷ xs) n (suc at) e h = nothing_more xs (λ k. n (suc k)) at e h

over_paths : (hs : List Held) (rows : List Placed) → map (λ (r : Placed). place_among r.path hs) rows ≡ map (λ p. place_among p hs) (map (λ (r : Placed). r.path) rows)
over_paths hs [] = refl
over_paths hs (r ∷ rows) = ap (λ os. place_among r.path hs ∷ os) (over_paths hs rows)

of_paths : (hs : List Held) (ms : List Member) → map (λ p. place_among p hs) (map (λ (m : Member). m.path) ms) ≡ map (λ m. place_among m.path hs) ms
of_paths hs [] = refl
of_paths hs (m ∷ ms) = ap (λ os. place_among m.path hs ∷ os) (of_paths hs ms)

pub findings_first : (s : StackState) (f : Findings) → f.made.items ≡ map (λ m. place_among m.path s.made) (source_members s)
    → f.held.items ≡ map (λ m. place_among m.path s.held) (source_members s) → length f.found.items ≡ length f.made.items → IsNothing f.found.items → AreFindings s f
findings_first s f made held count nothing = record {
  made = made;
  held = held;
  count = count ∙ ap length made ∙ length-map (source_members s) (λ m. place_among m.path s.made);
  found = λ at m e h k. absurd (nothing at e k);
}

-- where a path stands in a layout
any_row : (path : List ℕ) (rows : List Placed) → list_any (is_row_of path) rows ≡ list_any (bytes_eq path) (map (λ (r : Placed). r.path) rows)
any_row path [] = refl
any_row path (r ∷ rows) = ap (λ b. bytes_eq path r.path || b) (any_row path rows)

pub path_placed : (l : Layout) (path : List ℕ) (o : Option ℕ) → o ≡ value_at path l.places → IsPlaceIn l path o
path_placed l path None e = λ ms a.
    let none : is_some (position (is_row_of path) l.rows.items) ≡ false = ap is_some (sym (a.places path) ∙ sym e) in
    ap (list_any (bytes_eq path)) (sym a.paths) ∙ sym (any_row path l.rows.items) ∙ any_found (is_row_of path) l.rows.items
    ∙ sym (is_there (is_row_of path) l.rows.items) ∙ none
path_placed l path (Some at) e = λ ms a.
    let row = passes_at (is_row_of path) l.rows.items at (sym (a.places path) ∙ sym e) in
    let it = row_at ms l a at row.0 row.1 in
    (it.0, it.1, sym it.2 ∙ sym ((bytes_eq-Decides path row.0.path).0 row.2))

pub near_placed : (l : Layout) (path : List ℕ) (near : ℕ) (so : Bool) → so ≡ stands_at l near path → so ≡ true → IsPlaceIn l path (Some near)
near_placed l path near so is t = λ ms a. by ms a (slice_get l.rows.items near) refl (sym is ∙ t) where
  by : (ms : List Member) → AreRows ms l → (o : Option Placed) → slice_get l.rows.items near ≡ o → option_map_or (λ r. bytes_eq r.path path) o false ≡ true
      → (m : Member) × (slice_get ms near ≡ Some m) × (m.path ≡ path)
  by ms a None h e = absurd (true≢false (sym e))
  by ms a (Some r) h e = let it = row_at ms l a near r h in (it.0, it.1, sym it.2 ∙ (bytes_eq-Decides r.path path).0 e)

-- findings rest on what is made, held, was held before and is gone by
pub findings_stay : (s t : StackState) (f : Findings) → t.made ≡ s.made → t.held ≡ s.held → t.before ≡ s.before → t.going ≡ s.going → AreFindings s f → AreFindings t f
findings_stay s t f made held before going a =
    let members : source_members t ≡ source_members s =
    ap (λ o. option_map_or (λ source. resources_in (shape_of source (seen_in t.before))) o []) going
    ∙ ap (λ (hs : List Held). option_map_or (λ source. resources_in (shape_of source (seen_in hs))) s.going []) before in
    record {
      made = a.made ∙ ap (λ (hs : List Held). map (λ m. place_among m.path hs) (source_members s)) (sym made) ∙ ap (map (λ m. place_among m.path t.made)) (sym members);
      held = a.held ∙ ap (λ (hs : List Held). map (λ m. place_among m.path hs) (source_members s)) (sym held) ∙ ap (map (λ m. place_among m.path t.held)) (sym members);
      count = a.count ∙ ap length (sym members);
      found = λ at m e h k. found_stays s t made held before going m e (a.found at m e (ap (λ ms. slice_get ms at) (sym members) ∙ h) k);
    } where
      found_stays : (s t : StackState) → t.made ≡ s.made → t.held ≡ s.held → t.before ≡ s.before → t.going ≡ s.going → (m : Member) (e : Found) → IsFound s m.path e → IsFound t m.path e
      found_stays s t made held before going m e i = record {
        evaluated =
            ap (λ (o : Option Source). option_and_then (λ source. props_at source (shape_of source (seen_in t.before)) (seen_now t) m.path) o) going
            ∙ ap (λ (hs : List Held). option_and_then (λ source. props_at source (shape_of source (seen_in hs)) (seen_now t) m.path) s.going) before
            ∙ ap (λ (hs : List Held). option_and_then (λ source. props_at source (shape_of source (seen_in s.before)) (seen_in (hs ++ t.held)) m.path) s.going) made
            ∙ ap (λ (hs : List Held). option_and_then (λ source. props_at source (shape_of source (seen_in s.before)) (seen_in (s.made ++ hs)) m.path) s.going) held
            ∙ i.evaluated;
        known = i.known;
      }

-- the layout is that of the operation's source
pub layout_there : (x : State) (o : Outset) (l : Layout) → x.outset ≡ Some o → AreRows (resources_in (shape_of o.source (seen_in o.before))) l → AreRows (source_members (state_of x)) l
layout_there x o l h a = subst (λ (y : Option Outset). AreRows (option_map_or (λ source. resources_in (shape_of source (seen_in (before_in y)))) (source_in y) []) l) (sym h) a

pub layout_nowhere : (x : State) → x.outset ≡ None → source_members (state_of x) ≡ []
layout_nowhere x h = ap (λ (y : Option Outset). option_map_or (λ source. resources_in (shape_of source (seen_in (before_in y)))) (source_in y) []) h

-- what is found at a row, and where there is none
found_so : (s : StackState) (path : List ℕ) (v : Option Evaluated) (o : Option Found) → v ≡ props_now s path → IsFoundBy v o → FindsAt s path o
found_so s path v None e i = sym e ∙ i
found_so s path v (Some f) e i = record { evaluated = sym e ∙ i.0; known = i.1 }

pub found_at : {E : Type 0} (x : State) (o : Outset) (l : Layout) (at : ℕ) (r : Placed) (res : Result (Option Found) E) → x.outset ≡ Some o
    → AreRows (resources_in (shape_of o.source (seen_in o.before))) l → slice_get l.rows.items at ≡ Some r
    → IfOk res (IsFoundBy (props_at o.source (shape_of o.source (seen_in o.before)) (seen_of_places (state_of x) r.needs.items) r.path))
    → IfOk res (λ found. (m : Member) → slice_get (source_members (state_of x)) at ≡ Some m → FindsAt (state_of x) m.path found)
found_at x o l at r (Err e) h a g i = tt
found_at x o l at r (Ok f) h a g i =
    λ m k.
    let before : (state_of x).before ≡ o.before = ap before_in h in
    found_so (state_of x) m.path (props_at o.source (shape_of o.source (seen_in o.before)) (seen_of_places (state_of x) r.needs.items) r.path) f
    (ap (λ (hs : List Held). props_at o.source (shape_of o.source (seen_in hs)) (seen_of_places (state_of x) r.needs.items) r.path) (sym before)
    ∙ row_found (state_of x) o.source l at r (ap source_in h) (layout_there x o l h a) g m k)
    i

pub none_at : (x : State) (o : Outset) (l : Layout) (at : ℕ) → x.outset ≡ Some o → AreRows (resources_in (shape_of o.source (seen_in o.before))) l → slice_get l.rows.items at ≡ None
    → (m : Member) → slice_get (source_members (state_of x)) at ≡ Some m → FindsAt (state_of x) m.path None
none_at x o l at h a n m k =
    let rows = layout_there x o l h a in
    absurd (none-some m.path
    (sym (ap (option_map (λ (r : Placed). r.path)) n) ∙ sym (slice_get-map (λ (r : Placed). r.path) l.rows.items at) ∙ ap (λ (ps : List (List ℕ)). slice_get ps at) rows.paths
    ∙ slice_get-map (λ (y : Member). y.path) (source_members (state_of x)) at ∙ ap (option_map (λ (y : Member). y.path)) k))

pub none_without : (x : State) (at : ℕ) → x.outset ≡ None → (m : Member) → slice_get (source_members (state_of x)) at ≡ Some m → FindsAt (state_of x) m.path None
none_without x at h m k = absurd (none-some m (ap (λ (ms : List Member). slice_get ms at) (sym (layout_nowhere x h)) ∙ k))
