-- Findings follow what an outcome changes.
use Rattle.std.proofs.Common.{replicate, ◌≡◌, ℕ, zero, suc, ◌+◌, ◌<◌, ◌≤◌, ◌==◌, ◌||◌, ◌&&◌, not, Bool, true, false, List, [], ◌∷◌, ◌++◌, length, map, take, find, get_or, set, Option, Some, None, Result, Ok, Err, IfOk, option_map, refl, ap, sym, ◌∙◌, subst, arith, cond, true≢false}
use Rattle.std.specs.Prelude.{is_some}
use Rattle.std.specs.List.{AllByRecursion, list_any, slice_get}
use Rattle.std.specs.Option.{option_map_or, option_or}
use Rattle.std.specs.Str.{bytes_eq}
use Rattle.std.specs.Global.{Vec}
use Rattle.std.proofs.lemmas.Bool.{and_parts, eq-eqb, eqb-true, ne_eqb, not-true, or_parts}
use Rattle.std.proofs.Math.Seq.{take-suc}
use Rattle.std.proofs.lemmas.List.{length-set, length-take}
use Rattle.std.proofs.lemmas.List.Folds.{find-append, list_any-append}
use Rattle.std.proofs.lemmas.Option.{none-some, same_Some, slice_get-map, slice_get_within}
use Rattle.std.proofs.lemmas.Slice.Eq.{bytes_eq-Decides}
use Rattle.cf_tree.specs.Keys.{value_at}
use Rattle.cf_tree.specs.Lists.{is_among}
use Rattle.cf_tree.specs.Named.{all_differ}
use Rattle.cf_tree.specs.declared.request.Request.{Request}
use Rattle.cf_tree.specs.declared.request.Request.TheVariants as request
use Rattle.cf_entry.specs.declared.entry.Reply.{Reply}
use Rattle.cf_entry.specs.declared.entry.Reply.TheVariants as reply
use Rattle.cf_desired.specs.Work.{Member}
use Rattle.cf_effect.specs.declared.findings.Findings.{Findings}
use Rattle.cf_effect.specs.declared.findings.Found.{Found}
use Rattle.cf_effect.specs.declared.held.Held.{Held}
use Rattle.cf_effect.specs.declared.held.HeldStatus.TheVariants as held
use Rattle.cf_effect.specs.declared.layout.Layout.{Layout}
use Rattle.cf_effect.specs.declared.layout.Placed.{Placed}
use Rattle.cf_effect.specs.Begin.{seen_as_held}
use Rattle.cf_effect.specs.Findings.{AreFindings, IsFound, place_among}
use Rattle.cf_effect.specs.Following.{AreTaken, Forgets, IsPlaceIn, IsPlaceOf, KeepsPath, Notes, StandAt, nowhere, with_place}
use Rattle.cf_effect.specs.Layout.{AreRows, IsLayoutOf, is_place, is_row_of, source_members, path_at, users_at}
use Rattle.cf_effect.specs.Reply.{answered, changing, closing, made_of, making, replied, replying, status_made, terms_at, updating}
use Rattle.cf_effect.specs.Calls.{is_restore}
use Rattle.cf_effect.specs.Fold.{effect_at}
use Rattle.cf_entry.specs.declared.entry.Entry.{Entry}
use Rattle.cf_entry.specs.declared.entry.Entry.TheVariants as entry
use Rattle.cf_effect.specs.declared.held.HeldStatus.{HeldStatus}
use Rattle.cf_effect.specs.declared.held.Pending.{Pending}
use Rattle.cf_tree.specs.Datum.{Data}
use Rattle.cf_effect.specs.Words.{change_first, current_at, has_physical, is_current_at, pending_of, resource_at, where_physical}
use Rattle.cf_effect.specs.World.{StackState, no_stack}
use Rattle.cf_ready.proofs.Ranked.{read_else}
use Rattle.cf_effect.proofs.Closed.{any_found}
use Rattle.cf_effect.proofs.Places.{passes_at, position_changed, position_last}
use Rattle.cf_effect.proofs.Shown.{shown_now}
use Rattle.cf_effect.proofs.Sought.{any_at, apart_in, findings_stay, one_place, paths_in, props_stay, row_at, same_bytes}

-- one path needs another just where its place is among those of its needs
module _ (s : StackState) (l : Layout) (a : AreRows (source_members s) l) (path : List ℕ) (k : ℕ) (r : Placed) (there : slice_get l.rows.items k ≡ Some r) (is : r.path ≡ path) where
  needs_place : (at : ℕ) → at ≤ length l.rows.items → (ks : List ℕ) → AllByRecursion (λ j. j < at) ks → is_among path (map (path_at l.rows.items) ks) ≡ true → is_place k ks ≡ true
  needs_place at m [] h g = absurd (true≢false (sym g))
  needs_place at m (j ∷ ks) h g = by (bytes_eq path (path_at l.rows.items j)) refl g (needs_place at m ks h.1) where
    at_j : (o : Option Placed) → slice_get l.rows.items j ≡ o → bytes_eq path (option_map_or (λ x. x.path) o []) ≡ true → j < length l.rows.items → k ≡ j
    at_j None e d u = absurd (no_row l.rows.items j u e) where
      no_row : (rows : List Placed) (i : ℕ) → i < length rows → slice_get rows i ≡ None → ⊥
      no_row [] i u e = omega (arith, u)
      no_row (x ∷ rows) zero u e = none-some x (sym e)
      no_row (x ∷ rows) (suc i) u e = no_row rows i (omega (arith, u)) e
    at_j (Some x) e d u =
        let mine = row_at (source_members s) l a k r there in
        let other = row_at (source_members s) l a j x e in
        one_place (source_members s) k j mine.0 other.0 (apart_in s) mine.1 other.1 (sym mine.2 ∙ is ∙ (bytes_eq-Decides path x.path).0 d ∙ other.2)

    by : (b : Bool) → bytes_eq path (path_at l.rows.items j) ≡ b → (b || is_among path (map (path_at l.rows.items) ks)) ≡ true
        → (is_among path (map (path_at l.rows.items) ks) ≡ true → is_place k ks ≡ true) → (k == j || is_place k ks) ≡ true
    by true e d f = ap (λ b. b || is_place k ks) (eq-eqb k j (at_j (slice_get l.rows.items j) refl e (omega (arith, m, h.0))))
    by false e d f = or_so (k == j) (is_place k ks) (f d) where
      or_so : (b c : Bool) → c ≡ true → (b || c) ≡ true
      or_so true c e = refl
      or_so false c e = e

  row_there : (at : ℕ) (m : Member) → slice_get (source_members s) at ≡ Some m → (o : Option Placed) → slice_get l.rows.items at ≡ o → (x : Placed) × (slice_get l.rows.items at ≡ Some x)
  row_there at m h (Some x) e = (x, e)
  row_there at m h None e =
      absurd (none-some m.path
      (sym (ap (option_map (λ (x : Placed). x.path)) e) ∙ sym (slice_get-map (λ (x : Placed). x.path) l.rows.items at) ∙ ap (λ (ps : List (List ℕ)). slice_get ps at) a.paths
      ∙ slice_get-map (λ (n : Member). n.path) (source_members s) at ∙ ap (option_map (λ (n : Member). n.path)) h))

  or_so : (b c : Bool) → c ≡ true → (b || c) ≡ true
  or_so true c e = refl
  or_so false c e = e

  place_needed : (ks : List ℕ) → is_place k ks ≡ true → is_among path (map (path_at l.rows.items) ks) ≡ true
  place_needed [] h = h
  place_needed (j ∷ ks) h = by (k == j) refl h (place_needed ks) where
    by : (b : Bool) → (k == j) ≡ b → (b || is_place k ks) ≡ true → (is_place k ks ≡ true → is_among path (map (path_at l.rows.items) ks) ≡ true)
        → (bytes_eq path (path_at l.rows.items j) || is_among path (map (path_at l.rows.items) ks)) ≡ true
    by true e g more =
        let here : path ≡ path_at l.rows.items j =
        sym is ∙ ap (λ (o : Option Placed). option_map_or (λ x. x.path) o []) (sym there) ∙ ap (path_at l.rows.items) (eqb-true k j e) in
        ap (λ b. b || is_among path (map (path_at l.rows.items) ks)) (same_bytes path (path_at l.rows.items j) here)
    by false e g more = or_so (bytes_eq path (path_at l.rows.items j)) (is_among path (map (path_at l.rows.items) ks)) (more g)

  -- who is no user of a path doesn't need it, nor the other way round
  pub not_needed : (at : ℕ) (m : Member) → slice_get (source_members s) at ≡ Some m → is_place at (users_at l k) ≡ false → is_among path m.needs ≡ false
  not_needed at m h u = by (is_among path m.needs) refl where
    by : (b : Bool) → is_among path m.needs ≡ b → b ≡ false
    by false e = refl
    by true e =
        let row = row_there at m h (slice_get l.rows.items at) refl in
        let it = row_at (source_members s) l a at row.0 row.1 in
        let same : it.0 ≡ m = same_Some it.0 m (sym it.1 ∙ h) in
        let within = slice_get_within l.rows.items at row.0 row.1 in
        let so : is_place k row.0.needs.items ≡ true =
        needs_place at (omega (arith, within)) row.0.needs.items it.4 (ap (is_among path) (it.3 ∙ ap (λ (x : Member). x.needs) same) ∙ e) in
        absurd (true≢false (sym so ∙ ap (λ o. is_place k (option_map_or (λ (x : Placed). x.needs.items) o [])) (sym row.1) ∙ sym (a.users k at) ∙ u))

  pub not_user : (at : ℕ) (m : Member) → slice_get (source_members s) at ≡ Some m → is_among path m.needs ≡ false → is_place at (users_at l k) ≡ false
  not_user at m h n = by (is_place at (users_at l k)) refl where
    by : (b : Bool) → is_place at (users_at l k) ≡ b → b ≡ false
    by false e = refl
    by true e =
        let row = row_there at m h (slice_get l.rows.items at) refl in
        let it = row_at (source_members s) l a at row.0 row.1 in
        let same : it.0 ≡ m = same_Some it.0 m (sym it.1 ∙ h) in
        let so : is_place k row.0.needs.items ≡ true =
        ap (λ o. is_place k (option_map_or (λ (x : Placed). x.needs.items) o [])) (sym row.1) ∙ sym (a.users k at) ∙ e in
        absurd (true≢false (sym (place_needed row.0.needs.items so) ∙ ap (is_among path) (it.3 ∙ ap (λ (x : Member). x.needs) same) ∙ n))

pub none_taken : (xs : List (Option Found)) → AreTaken [] xs xs
none_taken xs = record { count = refl; kept = λ at e h. h; other = λ at e h. refl; same = λ at h. refl }

read_none : (xs : List (Option Found)) (i at : ℕ) (e : Found) → slice_get (set xs i None) at ≡ Some (Some e) → (slice_get xs at ≡ Some (Some e)) × (at ≡ i → ⊥)
read_none [] i at e h = absurd (none-some (Some e) h)
read_none (x ∷ xs) zero zero e h = absurd (none-some e (same_Some None (Some e) h))
read_none (x ∷ xs) zero (suc at) e h = (h, λ k. omega (arith, k))
read_none (x ∷ xs) (suc i) zero e h = (h, λ k. omega (arith, k))
read_none (x ∷ xs) (suc i) (suc at) e h = let it = read_none xs i at e h in (it.0, λ k. it.1 (omega (arith, k)))

place_more : (at y : ℕ) (ps : List ℕ) → is_place at ps ≡ false → (at ≡ y → ⊥) → is_place at (ps ++ y ∷ []) ≡ false
place_more at y [] h n = ap (λ b. b || false) (ne_eqb at y n)
place_more at y (p ∷ ps) h n = by (at == p) h (place_more at y ps) where
  by : (b : Bool) → (b || is_place at ps) ≡ false → (is_place at ps ≡ false → (at ≡ y → ⊥) → is_place at (ps ++ y ∷ []) ≡ false) → (b || is_place at (ps ++ y ∷ [])) ≡ false
  by true e f = absurd (true≢false e)
  by false e f = f e n

apart_from : (at y : ℕ) → is_place at (y ∷ []) ≡ false → at ≡ y → ⊥
apart_from at y h e = true≢false (sym (ap (λ b. b || false) (eq-eqb at y e)) ∙ h)

or_apart : (at y : ℕ) → (at ≡ y → ⊥) → is_place at (y ∷ []) ≡ false
or_apart at y n = ap (λ b. b || false) (ne_eqb at y n)

pub one_taken : (xs : List (Option Found)) (y : ℕ) → AreTaken (y ∷ []) xs (set xs y None)
one_taken xs y = record {
  count = length-set xs y None;
  kept = λ at e h. (read_none xs y at e h).0;
  other = λ at e h. or_apart at y (read_none xs y at e h).1;
  same = λ at h. read_else xs y at None (apart_from at y h);
}

pub one_past : (xs : List (Option Found)) (y : ℕ) → length xs ≤ y → AreTaken (y ∷ []) xs xs
one_past xs y past = record {
  count = refl;
  kept = λ at e h. h;
  other = λ at e h. or_apart at y (λ k. let under = slice_get_within xs at (Some e) h in omega (arith, under, past, k));
  same = λ at h. refl;
}

taken_next : (ps : List ℕ) (y : ℕ) (old mid new : List (Option Found)) → AreTaken ps old mid → AreTaken (y ∷ []) mid new → AreTaken (ps ++ y ∷ []) old new
taken_next ps y old mid new a o = record {
  count = o.count ∙ a.count;
  kept = λ at e h. a.kept at e (o.kept at e h);
  other = λ at e h. place_more at y ps (a.other at e (o.kept at e h)) (apart_from at y (o.other at e h));
  same = λ at h.
      let parts = or_parts (is_place at ps) (is_place at (y ∷ [])) (sym (list_any-append (λ k. at == k) ps (y ∷ [])) ∙ h) in
      o.same at parts.1 ∙ a.same at parts.0;
}

pub taken_more : (ps : List ℕ) (i : ℕ) (y : ℕ) (old mid new : List (Option Found)) → i < length ps → y ≡ get_or ps i y → AreTaken (take i ps) old mid
    → AreTaken (y ∷ []) mid new → AreTaken (take (i + 1) ps) old new
taken_more ps i y old mid new l is a o =
    let next : suc i ≡ i + 1 = omega arith in
    let more : take (i + 1) ps ≡ take i ps ++ y ∷ [] = ap (λ k. take k ps) (sym next) ∙ take-suc ps i y l ∙ ap (λ z. take i ps ++ z ∷ []) (sym is) in
    subst (λ qs. AreTaken qs old new) (sym more) (taken_next (take i ps) y old mid new a o)

whole_places : (xs : List ℕ) (n : ℕ) → length xs ≤ n → take n xs ≡ xs
whole_places [] zero m = refl
whole_places [] (suc n) m = refl
whole_places (x ∷ xs) zero m = absurd (omega (arith, m))
whole_places (x ∷ xs) (suc n) m = ap (λ ys. x ∷ ys) (whole_places xs n (omega (arith, m)))

pub all_taken : (ps : List ℕ) (i : ℕ) (old new : List (Option Found)) → length ps ≤ i → AreTaken (take i ps) old new → AreTaken ps old new
all_taken ps i old new l a = subst (λ qs. AreTaken qs old new) (whole_places ps i l) a

-- a place is put in
pub put_within : (os : List (Option ℕ)) (k n : ℕ) (o p : Option ℕ) → k < length os → o ≡ get_or os k o → p ≡ option_or o (Some n) → set os k p ≡ with_place k n os
put_within [] k n o p l e is = absurd (omega (arith, l))
put_within (x ∷ os) zero n o p l e is = ap (λ q. q ∷ os) (is ∙ ap (λ q. option_or q (Some n)) e)
put_within (x ∷ os) (suc k) n o p l e is = ap (λ qs. x ∷ qs) (put_within os k n o p (omega (arith, l)) e is)

pub put_past : (os : List (Option ℕ)) (k n : ℕ) → length os ≤ k → os ≡ with_place k n os
put_past [] k n l = refl
put_past (x ∷ os) zero n l = absurd (omega (arith, l))
put_past (x ∷ os) (suc k) n l = ap (λ qs. x ∷ qs) (put_past os k n (omega (arith, l)))

-- what is taken off of the users of a path
pub forgotten : (s : StackState) (l : Layout) (path : List ℕ) (k : ℕ) (old new : List (Option Found)) → AreRows (source_members s) l → value_at path l.places ≡ Some k
    → AreTaken (users_at l k) old new → Forgets s path old new
forgotten s l path k old new a place taken =
    let row = passes_at (is_row_of path) l.rows.items k (sym (a.places path) ∙ place) in
    record {
      count = taken.count;
      kept = taken.kept;
      other = λ at m e h g. not_needed s l a path k row.0 row.1 (sym ((bytes_eq-Decides path row.0.path).0 row.2)) at m h (taken.other at e g);
      same = λ at m h n. taken.same at (not_user s l a path k row.0 row.1 (sym ((bytes_eq-Decides path row.0.path).0 row.2)) at m h n);
    }

-- a member stands where a path is placed
pub member_there : (s : StackState) (l : Layout) (path : List ℕ) (k : ℕ) → AreRows (source_members s) l → value_at path l.places ≡ Some k → IsPlaceOf s path k
member_there s l path k a place =
    let row = passes_at (is_row_of path) l.rows.items k (sym (a.places path) ∙ place) in
    let it = row_at (source_members s) l a k row.0 row.1 in
    (it.0, it.1, sym it.2 ∙ sym ((bytes_eq-Decides path row.0.path).0 row.2))

-- what was found stays so, but for the users of a path at which alone another resource is shown
pub record ShowsElse (path : List ℕ) (s t : StackState) : Type 0 where
  pub going : t.going ≡ s.going
  pub before : t.before ≡ s.before
  pub shown : (q : List ℕ) → bytes_eq q path ≡ false → option_map seen_as_held (resource_at q t) ≡ option_map seen_as_held (resource_at q s)

else_path : (path : List ℕ) (ns : List (List ℕ)) (q : List ℕ) → is_among path ns ≡ false → is_among q ns ≡ true → bytes_eq q path ≡ false
else_path path ns q n h = by (bytes_eq q path) refl where
  by : (b : Bool) → bytes_eq q path ≡ b → b ≡ false
  by false e = refl
  by true e = absurd (true≢false (sym h ∙ ap (λ p. is_among p ns) ((bytes_eq-Decides q path).0 e) ∙ n))

pub members_stay : (s t : StackState) → t.going ≡ s.going → t.before ≡ s.before → source_members t ≡ source_members s
members_stay s t g b = rw (g, b) refl

pub follows : (path : List ℕ) (s t : StackState) (old new : Findings) → AreFindings s old → Forgets s path old.found.items new.found.items → ShowsElse path s t
    → new.made.items ≡ map (λ m. place_among m.path t.made) (source_members s) → new.held.items ≡ map (λ m. place_among m.path t.held) (source_members s) → AreFindings t new
follows path s t old new a f e made held = record {
  made = made ∙ ap (map (λ m. place_among m.path t.made)) (sym same);
  held = held ∙ ap (map (λ m. place_among m.path t.held)) (sym same);
  count = f.count ∙ a.count ∙ ap length (sym same);
  found = found_else;
} where
  same : source_members t ≡ source_members s
  same = members_stay s t e.going e.before

  found_else : (at : ℕ) (m : Member) (x : Found) → slice_get (source_members t) at ≡ Some m → slice_get new.found.items at ≡ Some (Some x) → IsFound t m.path x
  found_else at m x h k =
      let there : slice_get (source_members s) at ≡ Some m = ap (λ ms. slice_get ms at) (sym same) ∙ h in
      let was = a.found at m x there (f.kept at x k) in
      let not_among = f.other at m x there k in
      record {
        evaluated =
            props_stay s t at m e.going e.before there
            (λ q g. shown_now q t ∙ e.shown q (else_path path m.needs q not_among g) ∙ sym (shown_now q s))
            ∙ was.evaluated;
        known = was.known;
      }

-- less is found
pub found_less : (path : List ℕ) (s : StackState) (old new : Findings) → AreFindings s old → new.made.items ≡ old.made.items → new.held.items ≡ old.held.items
    → Forgets s path old.found.items new.found.items → AreFindings s new
found_less path s old new a made held f = record {
  made = made ∙ a.made;
  held = held ∙ a.held;
  count = f.count ∙ a.count;
  found = λ at m x h k. a.found at m x h (f.kept at x k);
}

or_none : {A : Type 0} (o : Option A) → option_or o None ≡ o
or_none None = refl
or_none (Some x) = refl

-- a resource of a path joins those that are made
module _ (s : StackState) (h : Held) (stands : h.superseded ≡ false) where
  current_so : (q : List ℕ) → is_current_at q h ≡ bytes_eq q h.path
  current_so q = by (bytes_eq q h.path) where
    by : (b : Bool) → (b && not h.superseded) ≡ b
    by true = ap not stands
    by false = refl

  made_else : (q : List ℕ) → bytes_eq q h.path ≡ false → current_at q (s.made ++ h ∷ []) ≡ current_at q s.made
  made_else q e =
      find-append (is_current_at q) s.made (h ∷ [])
      ∙ ap (λ b. option_or (current_at q s.made) (cond b (Some h) None)) (current_so q ∙ e) ∙ or_none (current_at q s.made)

  shows_made : ShowsElse h.path s (making h s)
  shows_made = record {
    going = refl;
    before = refl;
    shown = λ q e. ap (λ o. option_map seen_as_held (option_or o (current_at q s.held))) (made_else q e);
  }

  place_else : (q : List ℕ) → bytes_eq q h.path ≡ false → place_among q (s.made ++ h ∷ []) ≡ place_among q s.made
  place_else q e =
      position_last (is_current_at q) s.made h
      ∙ ap (λ b. option_or (place_among q s.made) (cond b (Some (length s.made)) None)) (current_so q ∙ e) ∙ or_none (place_among q s.made)

  place_here : (q : List ℕ) → bytes_eq q h.path ≡ true → place_among q (s.made ++ h ∷ []) ≡ option_or (place_among q s.made) (Some (length s.made))
  place_here q e =
      position_last (is_current_at q) s.made h ∙ ap (λ b. option_or (place_among q s.made) (cond b (Some (length s.made)) None)) (current_so q ∙ e)

  others_made : (ms : List Member) → list_any (bytes_eq h.path) (paths_in ms) ≡ false
      → map (λ m. place_among m.path s.made) ms ≡ map (λ m. place_among m.path (s.made ++ h ∷ [])) ms
  others_made [] n = refl
  others_made (m ∷ ms) n =
      let parts = neither (bytes_eq h.path m.path) (list_any (bytes_eq h.path) (paths_in ms)) n in
      ap (λ o. o ∷ map (λ x. place_among x.path s.made) ms) (sym (place_else m.path (turned m.path h.path parts.0)))
      ∙ ap (λ os. place_among m.path (s.made ++ h ∷ []) ∷ os) (others_made ms parts.1) where
        neither : (b c : Bool) → (b || c) ≡ false → (b ≡ false) × (c ≡ false)
        neither true c e = absurd (true≢false e)
        neither false c e = (refl, e)

        turned : (p q : List ℕ) → bytes_eq q p ≡ false → bytes_eq p q ≡ false
        turned p q e = by (bytes_eq p q) refl where
          by : (b : Bool) → bytes_eq p q ≡ b → b ≡ false
          by false k = refl
          by true k = absurd (true≢false (sym (same_bytes q p (sym ((bytes_eq-Decides p q).0 k))) ∙ e))

  made_there : (ms : List Member) (k : ℕ) (m : Member) → all_differ bytes_eq (paths_in ms) ≡ true → slice_get ms k ≡ Some m → m.path ≡ h.path
      → with_place k (length s.made) (map (λ x. place_among x.path s.made) ms) ≡ map (λ x. place_among x.path (s.made ++ h ∷ [])) ms
  made_there [] k m d e is = absurd (none-some m e)
  made_there (x ∷ ms) zero m d e is =
      let same : x.path ≡ h.path = ap (λ (y : Member). y.path) (same_Some x m e) ∙ is in
      let apart = and_parts (not (list_any (bytes_eq x.path) (paths_in ms))) (all_differ bytes_eq (paths_in ms)) d in
      ap (λ o. o ∷ map (λ y. place_among y.path s.made) ms) (sym (place_here x.path (same_bytes x.path h.path same)))
      ∙ ap (λ os. place_among x.path (s.made ++ h ∷ []) ∷ os)
      (others_made ms (ap (λ p. list_any (bytes_eq p) (paths_in ms)) (sym same) ∙ not-true (list_any (bytes_eq x.path) (paths_in ms)) apart.0))
  made_there (x ∷ ms) (suc k) m d e is =
      let apart = and_parts (not (list_any (bytes_eq x.path) (paths_in ms))) (all_differ bytes_eq (paths_in ms)) d in
      ap (λ o. o ∷ with_place k (length s.made) (map (λ y. place_among y.path s.made) ms)) (sym (place_else x.path (differs (bytes_eq x.path h.path) refl apart.0)))
      ∙ ap (λ os. place_among x.path (s.made ++ h ∷ []) ∷ os) (made_there ms k m apart.1 e is) where
        differs : (b : Bool) → bytes_eq x.path h.path ≡ b → not (list_any (bytes_eq x.path) (paths_in ms)) ≡ true → b ≡ false
        differs false c n = refl
        differs true c n =
            absurd (true≢false (sym (any_at (bytes_eq x.path) ms k m e (same_bytes x.path m.path ((bytes_eq-Decides x.path h.path).0 c ∙ sym is))) ∙ not-true (list_any (bytes_eq x.path) (paths_in ms)) n))

pub made_noted : (s : StackState) (path : List ℕ) (k : ℕ) (old new : Findings) → AreFindings s old → IsPlaceOf s path k
    → Forgets s path old.found.items new.found.items → new.made.items ≡ with_place k (length s.made) old.made.items → new.held.items ≡ old.held.items
    → (h : Held) → h.path ≡ path → h.superseded ≡ false → AreFindings (making h s) new
made_noted s path k old new a it f made held h is stands =
    follows h.path s (making h s) old new a (subst (λ p. Forgets s p old.found.items new.found.items) (sym is) f) (shows_made s h stands)
    (made ∙ ap (with_place k (length s.made)) a.made ∙ made_there s h stands (source_members s) k it.0 (apart_in s) it.1 (it.2 ∙ sym is))
    (held ∙ a.held)

-- where the resources of a list stand
pub nowhere_more : (n : ℕ) (old new : List (Option ℕ)) → old ≡ replicate n nowhere → new ≡ old ++ None ∷ [] → new ≡ replicate (n + 1) nowhere
nowhere_more n old new e f = f ∙ ap (λ os. os ++ None ∷ []) e ∙ more n ∙ ap (λ k. replicate k nowhere) (let k : suc n ≡ n + 1 = omega arith in k) where
  more : (n : ℕ) → replicate n nowhere ++ nowhere ∷ [] ≡ replicate (suc n) nowhere
  more zero = refl
  more (suc n) = ap (λ os. nowhere ∷ os) (more n)

pub none_stand : (l : Layout) (places : List (Option ℕ)) → places ≡ replicate (length l.rows.items) nowhere → StandAt l [] places
none_stand l places e = λ ms a d. e ∙ of_rows l.rows.items ∙ ap (map (λ p. place_among p [])) a.paths ∙ of_members ms where
  of_rows : (rows : List Placed) → replicate (length rows) nowhere ≡ map (λ p. place_among p []) (map (λ (r : Placed). r.path) rows)
  of_rows [] = refl
  of_rows (r ∷ rows) = ap (λ os. None ∷ os) (of_rows rows)

  of_members : (ms : List Member) → map (λ p. place_among p []) (map (λ (m : Member). m.path) ms) ≡ map (λ m. place_among m.path []) ms
  of_members [] = refl
  of_members (m ∷ ms) = ap (λ os. place_among m.path [] ∷ os) (of_members ms)

abbrev with_made : List Held → StackState
with_made hs = record no_stack { made = hs }

pub stands_there : (l : Layout) (at place : ℕ) (h : Held) (old new : List (Option ℕ)) → h.superseded ≡ false → IsPlaceIn l h.path (Some place)
    → new ≡ with_place place at old → Notes l at h old new
stands_there l at place h old new stands it e = λ hs count so ms a d.
    let m = it ms a in
    e ∙ ap (λ k. with_place place k old) (sym count) ∙ ap (with_place place (length hs)) (so ms a d)
    ∙ made_there (with_made hs) h stands ms place m.0 d m.1 m.2

pub stands_nowhere : (l : Layout) (at : ℕ) (h : Held) (old new : List (Option ℕ)) → h.superseded ≡ false → IsPlaceIn l h.path None → new ≡ old
    → Notes l at h old new
stands_nowhere l at h old new stands it e = λ hs count so ms a d. e ∙ so ms a d ∙ others_made (with_made hs) h stands ms (it ms a)

pub stands_replaced : (l : Layout) (at : ℕ) (h : Held) (old new : List (Option ℕ)) → h.superseded ≡ true → new ≡ old → Notes l at h old new
stands_replaced l at h old new gone e = λ hs count so ms a d. e ∙ so ms a d ∙ all hs ms where
  never : (b : Bool) → (b && not h.superseded) ≡ false
  never true = ap not gone
  never false = refl

  one : (hs : List Held) (q : List ℕ) → place_among q (hs ++ h ∷ []) ≡ place_among q hs
  one hs q =
      position_last (is_current_at q) hs h
      ∙ ap (λ b. option_or (place_among q hs) (cond b (Some (length hs)) None)) (never (bytes_eq q h.path)) ∙ or_none (place_among q hs)

  all : (hs : List Held) (ms : List Member) → map (λ m. place_among m.path hs) ms ≡ map (λ m. place_among m.path (hs ++ h ∷ [])) ms
  all hs [] = refl
  all hs (m ∷ ms) =
      ap (λ o. o ∷ map (λ x. place_among x.path hs) ms) (sym (one hs m.path)) ∙ ap (λ os. place_among m.path (hs ++ h ∷ []) ∷ os) (all hs ms)

pub more_stand : (l : Layout) (hs : List Held) (i : ℕ) (h : Held) (old new : List (Option ℕ)) → i < length hs → h ≡ get_or hs i h → Notes l i h old new
    → StandAt l (take i hs) old → StandAt l (take (i + 1) hs) new
more_stand l hs i h old new within is notes so =
    let next : suc i ≡ i + 1 = omega arith in
    let count : length (take i hs) ≡ i = grind (arith, length-take {A = Held}) in
    let more : take (i + 1) hs ≡ take i hs ++ h ∷ [] =
    ap (λ k. take k hs) (sym next) ∙ take-suc hs i h within ∙ ap (λ z. take i hs ++ z ∷ []) (sym is) in
    subst (λ xs. StandAt l xs new) (sym more) (notes (take i hs) count so)

pub all_standing : {E : Type 0} (s : StackState) (l : Layout) (hs : List Held) (res : Result (Vec (Option ℕ)) E) → IsLayoutOf s (Some l)
    → IfOk res (λ places. StandAt l hs places.items) → IfOk res (λ places. places.items ≡ map (λ m. place_among m.path hs) (source_members s))
all_standing s l hs (Ok places) a so = so (source_members s) a (apart_in s)
all_standing s l hs (Err e) a so = tt

pub no_paths : (s : StackState) (hs : List Held) (places : List (Option ℕ)) → IsLayoutOf s None → places ≡ [] → places ≡ map (λ m. place_among m.path hs) (source_members s)
no_paths s hs places none e = e ∙ ap (map (λ m. place_among m.path hs)) (sym none)

-- the first resource of an id is changed, which stays that of its path
module _ (change : Held → Held) (keeps : KeepsPath change) where
  same_current : (q : List ℕ) (h : Held) → is_current_at q (change h) ≡ is_current_at q h
  same_current q h = ap (λ p. bytes_eq q p && not (change h).superseded) (keeps.path h) ∙ ap (λ b. bytes_eq q h.path && not b) (keeps.superseded h)

  changed_else : (test : Held → Bool) (q : List ℕ) (hs : List Held) (x : Held) → find test hs ≡ Some x → bytes_eq q x.path ≡ false
      → current_at q (change_first test change hs) ≡ current_at q hs
  changed_else test q [] x f e = refl
  changed_else test q (h ∷ hs) x f e = by (test h) f (changed_else test q hs x) where
    by : (b : Bool) → cond b (Some h) (find test hs) ≡ Some x → (find test hs ≡ Some x → bytes_eq q x.path ≡ false → current_at q (change_first test change hs) ≡ current_at q hs)
        → current_at q (cond b (change h ∷ hs) (h ∷ change_first test change hs)) ≡ current_at q (h ∷ hs)
    by true g more =
        let not_h : is_current_at q h ≡ false = ap (λ b. b && not h.superseded) (ap (λ (y : Held). bytes_eq q y.path) (same_Some h x g) ∙ e) in
        ap (λ b. cond b (Some (change h)) (current_at q hs)) (same_current q h ∙ not_h) ∙ sym (ap (λ b. cond b (Some h) (current_at q hs)) not_h)
    by false g more = ap (λ o. cond (is_current_at q h) (Some h) o) (more g e)

  places_same : (test : Held → Bool) (q : List ℕ) (hs : List Held) → place_among q (change_first test change hs) ≡ place_among q hs
  places_same test q hs = position_changed (is_current_at q) test change (same_current q) hs

  all_same : (test : Held → Bool) (hs : List Held) (ms : List Member) → map (λ m. place_among m.path hs) ms ≡ map (λ m. place_among m.path (change_first test change hs)) ms
  all_same test hs [] = refl
  all_same test hs (m ∷ ms) =
      ap (λ o. o ∷ map (λ n. place_among n.path hs) ms) (sym (places_same test m.path hs))
      ∙ ap (λ os. place_among m.path (change_first test change hs) ∷ os) (all_same test hs ms)

  -- of an id that is held, and of one that is made
  module _ (id : List ℕ) (s : StackState) (old new : Findings) (a : AreFindings s old) (made : new.made.items ≡ old.made.items) (held : new.held.items ≡ old.held.items)
      (x : Held) (f : Forgets s x.path old.found.items new.found.items) where
    changed_held : find (has_physical id) s.held ≡ Some x → AreFindings (record s { held = where_physical id change s.held }) new
    changed_held e =
        follows x.path s (record s { held = where_physical id change s.held }) old new a f
        (record { going = refl; before = refl; shown = λ q g. ap (λ o. option_map seen_as_held (option_or (current_at q s.made) o)) (changed_else (has_physical id) q s.held x e g) })
        (made ∙ a.made) (held ∙ a.held ∙ all_same (has_physical id) s.held (source_members s))

    changed_made : find (has_physical id) s.made ≡ Some x → AreFindings (record s { made = where_physical id change s.made }) new
    changed_made e =
        follows x.path s (record s { made = where_physical id change s.made }) old new a f
        (record { going = refl; before = refl; shown = λ q g. ap (λ o. option_map seen_as_held (option_or o (current_at q s.held))) (changed_else (has_physical id) q s.made x e g) })
        (made ∙ a.made ∙ all_same (has_physical id) s.made (source_members s)) (held ∙ a.held)

    changed_first : option_or (find (has_physical id) s.held) (find (has_physical id) s.made) ≡ Some x → AreFindings (changing id change s) new
    changed_first e = by (list_any (has_physical id) s.held) (find (has_physical id) s.held) refl (any_found (has_physical id) s.held) e where
      by : (b : Bool) (o : Option Held) → find (has_physical id) s.held ≡ o → b ≡ is_some (find (has_physical id) s.held) → option_or o (find (has_physical id) s.made) ≡ Some x
          → AreFindings (cond b (record s { held = where_physical id change s.held }) (record s { made = where_physical id change s.made })) new
      by true (Some y) i t g = changed_held (i ∙ g)
      by true None i t g = absurd (true≢false (t ∙ ap is_some i))
      by false (Some y) i t g = absurd (true≢false (sym (t ∙ ap is_some i)))
      by false None i t g = changed_made g

pub changed_noted : (s : StackState) (id : List ℕ) (x : Held) (old new : Findings) → AreFindings s old → new.made.items ≡ old.made.items → new.held.items ≡ old.held.items
    → option_or (find (has_physical id) s.held) (find (has_physical id) s.made) ≡ Some x → Forgets s x.path old.found.items new.found.items
    → (change : Held → Held) → KeepsPath change → AreFindings (changing id change s) new
changed_noted s id x old new a made held e f change keeps = changed_first change keeps id s old new a made held x f e

-- what an answer changes
keeps_updated : (props attrs : List (List ℕ × Data)) → KeepsPath (updating props attrs)
keeps_updated props attrs = record { path = λ h. refl; physical = λ h. refl; superseded = λ h. refl }

keeps_status : (state : HeldStatus) → KeepsPath (λ h. record h { status = state })
keeps_status state = record { path = λ h. refl; physical = λ h. refl; superseded = λ h. refl }

pub doubt_noted : (s : StackState) (f : Findings) (r : Request) (path : List ℕ) → AreFindings s f → (restores : Bool) → AreFindings (answered restores path r reply.Doubt s) f
doubt_noted s f (request.Create k props) path a restores = a
doubt_noted s f (request.Update id props) path a restores = a
doubt_noted s f (request.Delete id) path a restores = a

pub update_noted : (s : StackState) (f : Findings) (id path : List ℕ) (props : List (List ℕ × Data)) (answer : Reply) → AreFindings s f
    → ((change : Held → Held) → KeepsPath change → AreFindings (changing id change s) f) → (restores : Bool) → AreFindings (answered restores path (request.Update id props) answer s) f
update_noted s f id path props (reply.Success physical attrs) a h restores = h (updating props attrs) (keeps_updated props attrs)
update_noted s f id path props (reply.Failed c) a h true = h (λ x. record x { status = held.UpdateFailed }) (keeps_status held.UpdateFailed)
update_noted s f id path props (reply.Failed c) a h false = a
update_noted s f id path props reply.Doubt a h restores = a

pub create_noted : (s : StackState) (f : Findings) (path k : List ℕ) (props : List (List ℕ × Data)) (physical : List ℕ) (attrs : List (List ℕ × Data))
    → ((h : Held) → h.path ≡ path → h.superseded ≡ false → AreFindings (making h s) f)
    → (restores : Bool) → AreFindings (answered restores path (request.Create k props) (reply.Success physical attrs) s) f
create_noted s f path k props physical attrs h restores = h (made_of (terms_at path s) (status_made (current_at path s.held)) path k props physical attrs) refl refl

-- and what an outcome changes
pub outcome_noted : (s : StackState) (f : Findings) (p : Pending) (n token : ℕ) (answer : Reply) (b e place : ℕ) → pending_of token s ≡ Some p
    → ((restores : Bool) → AreFindings (answered restores p.path p.request answer s) f)
    → AreFindings (effect_at place (entry.Outcome n token answer b e) s).stack f
outcome_noted s f p n token answer b e place is h =
    let x : StackState = answered (is_restore token s) p.path p.request answer s in
    let so : replying token answer s ≡ closing token answer x = ap (λ o. replied token answer o s) is in
    findings_stay x (effect_at place (entry.Outcome n token answer b e) s).stack f (ap (λ (y : StackState). y.made) so) (ap (λ (y : StackState). y.held) so)
    (ap (λ (y : StackState). y.before) so) (ap (λ (y : StackState). y.going) so) (h (is_restore token s))

pub entry_noted : (s : StackState) (f : Findings) (x : Entry) (p : Pending) (n token : ℕ) (answer : Reply) (b e place : ℕ) → x ≡ entry.Outcome n token answer b e
    → pending_of token s ≡ Some p → ((restores : Bool) → AreFindings (answered restores p.path p.request answer s) f) → AreFindings (effect_at place x s).stack f
entry_noted s f x p n token answer b e place is open_there h =
    subst (λ y. AreFindings (effect_at place y s).stack f) (sym is) (outcome_noted s f p n token answer b e place open_there h)

pub created_by : (s : StackState) (f : Findings) (p : Pending) (a : Reply) (k : List ℕ) (props : List (List ℕ × Data)) (physical : List ℕ) (attrs : List (List ℕ × Data))
    → p.request ≡ request.Create k props → a ≡ reply.Success physical attrs → ((h : Held) → h.path ≡ p.path → h.superseded ≡ false → AreFindings (making h s) f)
    → (restores : Bool) → AreFindings (answered restores p.path p.request a s) f
created_by s f p a k props physical attrs asked told h restores =
    subst (λ r. AreFindings (answered restores p.path r a s) f) (sym asked)
    (subst (λ b. AreFindings (answered restores p.path (request.Create k props) b s) f) (sym told) (create_noted s f p.path k props physical attrs h restores))
