-- Which paths are ready follows what is made and found.
use Rattle.std.proofs.Common.{◌≡◌, ℕ, zero, suc, ◌+◌, ◌<◌, ◌≤◌, ◌⊎◌, inl, inr, ◌==◌, ◌&&◌, ◌||◌, not, Bool, true, false, List, [], ◌∷◌, ◌++◌, Option, Some, None, Result, Ok, Err, IfOk, length, map, get_or, set, position, replicate, take, refl, sym, ◌∙◌, ap, arith, subst, true≢false}
use Rattle.std.specs.Prelude.{is_some}
use Rattle.std.specs.List.{list_all, list_any, slice_get}
use Rattle.std.specs.Option.{IfSome, option_and_then, option_map, option_map_or, option_or}
use Rattle.std.specs.Str.{bytes_eq}
use Rattle.std.proofs.Math.Seq.{take-suc}
use Rattle.std.proofs.lemmas.Bool.{and_parts, cases_lt, eq-eqb, eqb-true, or_from, or_parts}
use Rattle.std.proofs.lemmas.List.{get_or-set_other, take_all}
use Rattle.std.proofs.lemmas.List.Folds.{list_any-append}
use Rattle.std.proofs.lemmas.Option.{none-some, same_Some, slice_get-map, slice_get_within}
use Rattle.std.proofs.lemmas.Slice.Eq.{bytes_eq-Decides}
use Rattle.cf_tree.specs.Keys.{ascends}
use Rattle.cf_ready.specs.declared.ready.Readiness.{Readiness}
use Rattle.cf_ready.specs.Ready.{AreAll, HasFlags, IsShaped, are_made_in, awaits_make, is_made_in, is_unsound}
use Rattle.cf_ready.specs.Ready as plain
use Rattle.cf_ready.proofs.Flagged.{flags_else, flags_here, none_met, shaped_stays}
use Rattle.cf_ready.proofs.Ranked.{read_else, same_or_not}
use Rattle.cf_desired.specs.Work.{Member}
use Rattle.cf_effect.specs.declared.ahead.Ahead.{Ahead}
use Rattle.cf_effect.specs.declared.ahead.Way.{Way}
use Rattle.cf_effect.specs.declared.ahead.Way.TheVariants.{Back, Forth}
use Rattle.cf_effect.specs.declared.findings.Found.{Found}
use Rattle.cf_effect.specs.declared.layout.Layout.{Layout}
use Rattle.cf_effect.specs.declared.layout.Placed.{Placed}
use Rattle.cf_effect.specs.Ahead.{AreFlagsAt, FirstMade, FollowsFound, FollowsMade, GoesForth, IsAhead, IsReadiness, IsTouched, Touches, found_in, is_sound, order_of, waiting_for, waits_for}
use Rattle.cf_effect.specs.Following.{Forgets, IsPlaceOf, kept_at, with_place}
use Rattle.cf_effect.specs.Layout.{AreRows, is_place, is_row_of, source_members, path_at, users_at}
use Rattle.cf_effect.specs.World.{StackState}
use Rattle.cf_effect.proofs.Noted.{not_needed}
use Rattle.cf_effect.proofs.Sorted.{all_placed}
use Rattle.cf_effect.proofs.Sought.{row_at}

one_of : (k at : ℕ) → is_place k (at ∷ []) ≡ true → k ≡ at
one_of k at h = by (k == at) refl h where
  by : (b : Bool) → (k == at) ≡ b → (b || false) ≡ true → k ≡ at
  by true e g = eqb-true k at e
  by false e g = absurd (true≢false (sym g))

-- the flags of one path are set
module _ (w : Way) (l : Layout) (made : List (Option ℕ)) (found : List (Option Found)) where
  pub one_touched : (old new : Readiness) (at : ℕ) (row : Placed) (sound : Bool) → slice_get l.rows.items at ≡ Some row → sound ≡ is_sound (found_in found at)
      → (are_made_in made (take (get_or old.met.items at 0) (waits_for w l at row)) ≡ true → plain.Touches made (waits_for w l at row) sound at old new)
      → Touches w l made found (λ k. is_place k (at ∷ []) ≡ true) old new
  one_touched old new at row sound is so t shaped first = record {
    shaped = shaped_stays (order_of l) (length l.rows.items) made at (waits_for w l at row) sound old new shaped did;
    first = λ k r h. elim (same_or_not k at) [
      | inl e ↦ (here k e r h).first
      | inr n ↦ subst (λ m. are_made_in made (take m (waits_for w l k r)) ≡ true) (sym (met_else k n)) (first k r h)
    ];
    there = λ k p r h. here k (one_of k at p) r h;
    kept = λ k f r h. elim (same_or_not k at) [
      | inl e ↦ here k e r h
      | inr n ↦ flags_else (order_of l) (length l.rows.items) made at (waits_for w l at row) sound old new shaped did k (waits_for w l k r) (is_sound (found_in found k)) n (f r h)
    ];
  } where
    did : plain.Touches made (waits_for w l at row) sound at old new
    did = t (first at row is)

    met_else : (k : ℕ) → (k ≡ at → ⊥) → get_or new.met.items k 0 ≡ get_or old.met.items k 0
    met_else k n = ap (λ ns. get_or ns k 0) did.mets ∙ get_or-set_other old.met.items at k did.met 0 n

    here : (k : ℕ) → k ≡ at → (r : Placed) → slice_get l.rows.items k ≡ Some r → HasFlags made (waits_for w l k r) (is_sound (found_in found k)) k new
    here k e r h =
        let same : r ≡ row = same_Some r row (sym h ∙ ap (slice_get l.rows.items) e ∙ is) in
        subst (λ j. HasFlags made (waits_for w l j r) (is_sound (found_in found j)) j new) (sym e)
        (subst (λ (x : Placed). HasFlags made (waits_for w l at x) (is_sound (found_in found at)) at new) (sym same)
        (subst (λ b. HasFlags made (waits_for w l at row) b at new) so
        (flags_here (order_of l) (length l.rows.items) made at (waits_for w l at row) sound old new shaped did (slice_get_within l.rows.items at row is))))

  pub none_touched : (old : Readiness) (at : ℕ) → slice_get l.rows.items at ≡ None → Touches w l made found (λ k. is_place k (at ∷ []) ≡ true) old old
  none_touched old at n shaped first = record {
    shaped = shaped;
    first = first;
    there = λ k p r h. absurd (none-some r (sym n ∙ ap (slice_get l.rows.items) (sym (one_of k at p)) ∙ h));
    kept = λ k f. f;
  }

  -- and of one after another
  pub touched_first : (r : Readiness) → Touches w l made found (λ k. is_place k [] ≡ true) r r
  touched_first r shaped first = record { shaped = shaped; first = first; there = λ k p. absurd (true≢false (sym p)); kept = λ k f. f }

  both_touched : (P Q R : ℕ → Type 0) → ((k : ℕ) → R k → P k ⊎ Q k) → (old mid new : Readiness) → Touches w l made found P old mid → Touches w l made found Q mid new
      → Touches w l made found R old new
  both_touched P Q R cases old mid new t u shaped first =
      let a = t shaped first in
      let b = u a.shaped a.first in
      record {
        shaped = b.shaped;
        first = b.first;
        there = λ k p. elim (cases k p) [ inl q ↦ b.kept k (a.there k q) | inr q ↦ b.there k q ];
        kept = λ k f. b.kept k (a.kept k f);
      }

  either : (ps qs : List ℕ) (k : ℕ) → is_place k (ps ++ qs) ≡ true → (is_place k ps ≡ true) ⊎ (is_place k qs ≡ true)
  either ps qs k h = by (is_place k ps) refl (sym (list_any-append (λ j. k == j) ps qs) ∙ h) where
    by : (b : Bool) → is_place k ps ≡ b → (b || is_place k qs) ≡ true → (is_place k ps ≡ true) ⊎ (is_place k qs ≡ true)
    by true e g = inl e
    by false e g = inr g

  next_touched : (ps : List ℕ) (at : ℕ) (old mid new : Readiness) → Touches w l made found (λ k. is_place k ps ≡ true) old mid
      → Touches w l made found (λ k. is_place k (at ∷ []) ≡ true) mid new → Touches w l made found (λ k. is_place k (ps ++ at ∷ []) ≡ true) old new
  next_touched ps at old mid new =
      both_touched (λ k. is_place k ps ≡ true) (λ k. is_place k (at ∷ []) ≡ true) (λ k. is_place k (ps ++ at ∷ []) ≡ true) (either ps (at ∷ [])) old mid new

  pub touched_more : (ps : List ℕ) (i : ℕ) (old mid new : Readiness) → i < length ps → Touches w l made found (λ k. is_place k (take i ps) ≡ true) old mid
      → Touches w l made found (λ k. is_place k (get_or ps i 0 ∷ []) ≡ true) mid new → Touches w l made found (λ k. is_place k (take (i + 1) ps) ≡ true) old new
  touched_more ps i old mid new less t u =
      let next : suc i ≡ i + 1 = omega arith in
      let more : take (i + 1) ps ≡ take i ps ++ get_or ps i 0 ∷ [] = ap (λ k. take k ps) (sym next) ∙ take-suc ps i 0 less in
      subst (λ qs. Touches w l made found (λ k. is_place k qs ≡ true) old new) (sym more) (next_touched (take i ps) (get_or ps i 0) old mid new t u)

  pub touched_all : (ps : List ℕ) (i : ℕ) (old new : Readiness) → length ps ≤ i → Touches w l made found (λ k. is_place k (take i ps) ≡ true) old new
      → Touches w l made found (λ k. is_place k ps ≡ true) old new
  touched_all ps i old new m t = subst (λ qs. Touches w l made found (λ k. is_place k qs ≡ true) old new) (take_all i ps m) t

  pub around_touched : (at : ℕ) (ps : List ℕ) (old mid new : Readiness) → ps ≡ waiting_for w l at → Touches w l made found (λ k. is_place k ps ≡ true) old mid
      → Touches w l made found (λ k. is_place k (at ∷ []) ≡ true) mid new → Touches w l made found (λ k. is_place k (waiting_for w l at ++ at ∷ []) ≡ true) old new
  around_touched at ps old mid new is t u =
      subst (λ qs. Touches w l made found (λ k. is_place k (qs ++ at ∷ []) ≡ true) old new) is (next_touched ps at old mid new t u)

  pub below_first : (r : Readiness) → Touches w l made found (λ k. k < 0) r r
  below_first r shaped first = record { shaped = shaped; first = first; there = λ k p. absurd (omega (arith, p)); kept = λ k f. f }

  pub below_more : (n : ℕ) (old mid new : Readiness) → Touches w l made found (λ k. k < n) old mid → Touches w l made found (λ k. is_place k (n ∷ []) ≡ true) mid new
      → Touches w l made found (λ k. k < n + 1) old new
  below_more n old mid new =
      both_touched (λ k. k < n) (λ k. is_place k (n ∷ []) ≡ true) (λ k. k < n + 1) (λ k h. elim (same_or_not k n) [
        | inl e ↦ inr (ap (λ b. b || false) (eq-eqb k n e))
        | inr m ↦ inl (elim (cases_lt k n) [ inl less ↦ less | inr over ↦ absurd (m (omega (arith, h, over))) ])
      ]) old mid new

  pub below_all : (n m : ℕ) (old new : Readiness) → m ≤ n → Touches w l made found (λ k. k < n) old new → Touches w l made found (λ k. k < m) old new
  below_all n m old new less t shaped first =
      let a = t shaped first in
      record { shaped = a.shaped; first = a.first; there = λ k p. a.there k (omega (arith, p, less)); kept = a.kept }

-- all are set for the first time
pub all_ready : (w : Way) (l : Layout) (made : List (Option ℕ)) (found : List (Option Found)) (n : ℕ) (names : List (List ℕ × ℕ)) (first last : Readiness) → n ≡ length l.rows.items
    → names ≡ l.places → ascends names ≡ true → (AreAll n (map (λ p. p.1) names) → IsShaped (map (λ p. p.1) names) n first) → first.met.items ≡ replicate n 0
    → Touches w l made found (λ k. k < n) first last → (s : StackState) → AreRows (source_members s) l → IsReadiness w l made found last
all_ready w l made found n names first last count is order shaped met t s a =
    let all : AreAll n (map (λ p. p.1) names) =
    subst (λ k. AreAll k (map (λ p. p.1) names)) (sym count) (subst (λ ps. AreAll (length l.rows.items) (map (λ p. p.1) ps)) (sym is) (all_placed s l (ap ascends (sym is) ∙ order) a)) in
    let begins : IsShaped (order_of l) (length l.rows.items) first =
    subst (λ k. IsShaped (order_of l) k first) count (subst (λ ps. IsShaped (map (λ p. p.1) ps) n first) is (shaped all)) in
    let ends = t begins (λ at row h. none_met made (waits_for w l at row) first.met.items n at met) in
    record {
      shaped = ends.shaped;
      flags = λ at row h. let within = slice_get_within l.rows.items at row h in ends.there at (omega (arith, within, count)) row h;
    }

-- what is made more
pub made_else : (os : List (Option ℕ)) (at n k : ℕ) → (k ≡ at → ⊥) → is_made_in (with_place at n os) k ≡ is_made_in os k
made_else [] at n k d = refl
made_else (o ∷ os) zero n zero d = absurd (d refl)
made_else (o ∷ os) zero n (suc k) d = refl
made_else (o ∷ os) (suc at) n zero d = refl
made_else (o ∷ os) (suc at) n (suc k) d = made_else os at n k (λ e. d (ap suc e))

pub made_stays : (os : List (Option ℕ)) (at n k : ℕ) → is_made_in os k ≡ true → is_made_in (with_place at n os) k ≡ true
made_stays [] at n k h = h
made_stays (Some p ∷ os) zero n zero h = refl
made_stays (None ∷ os) zero n zero h = refl
made_stays (o ∷ os) zero n (suc k) h = h
made_stays (o ∷ os) (suc at) n zero h = h
made_stays (o ∷ os) (suc at) n (suc k) h = made_stays os at n k h

pub all_else : (os : List (Option ℕ)) (at n : ℕ) (needs : List ℕ) → is_place at needs ≡ false → are_made_in (with_place at n os) needs ≡ are_made_in os needs
all_else os at n [] h = refl
all_else os at n (k ∷ needs) h =
    let parts = or_parts (at == k) (is_place at needs) h in
    ap (λ b. b && are_made_in (with_place at n os) needs) (made_else os at n k (λ e. true≢false (sym (eq-eqb at k (sym e)) ∙ parts.0)))
    ∙ ap (λ b. is_made_in os k && b) (all_else os at n needs parts.1)

pub all_stay : (os : List (Option ℕ)) (at n : ℕ) (needs : List ℕ) → are_made_in os needs ≡ true → are_made_in (with_place at n os) needs ≡ true
all_stay os at n [] h = refl
all_stay os at n (k ∷ needs) h =
    let parts = and_parts (is_made_in os k) (are_made_in os needs) h in
    ap (λ b. b && are_made_in (with_place at n os) needs) (made_stays os at n k parts.0) ∙ all_stay os at n needs parts.1

-- the flags of a path that isn't the one that is made, nor needs it
module _ (l : Layout) (s : StackState) (a : AreRows (source_members s) l) (path : List ℕ) (at n : ℕ) (place : IsPlaceOf s path at) (old : List (Option ℕ)) (was found : List (Option Found))
    (gone : Forgets s path was found) (r : Readiness) (is : IsReadiness Forth l old was r) where
  abbrev made_now : List (Option ℕ)
  made_now = with_place at n old

  first_stays : FirstMade Forth l made_now r
  first_stays k row h = all_stay old at n (take (get_or r.met.items k 0) row.needs.items) (is.flags k row h).first

  -- the row of the path
  its_row : (row : Placed) × (slice_get l.rows.items at ≡ Some row) × (row.path ≡ path)
  its_row = by (slice_get l.rows.items at) refl where
    by : (o : Option Placed) → slice_get l.rows.items at ≡ o → (row : Placed) × (slice_get l.rows.items at ≡ Some row) × (row.path ≡ path)
    by (Some row) e =
        let it = row_at (source_members s) l a at row e in
        (row, e, it.2 ∙ ap (λ (m : Member). m.path) (same_Some it.0 place.0 (sym it.1 ∙ place.1)) ∙ place.2)
    by None e =
        absurd (none-some path
        (sym (ap (option_map (λ (x : Placed). x.path)) e) ∙ sym (slice_get-map (λ (x : Placed). x.path) l.rows.items at) ∙ ap (λ (ps : List (List ℕ)). slice_get ps at) a.paths
        ∙ slice_get-map (λ (m : Member). m.path) (source_members s) at ∙ ap (option_map (λ (m : Member). m.path)) place.1 ∙ ap Some place.2))

  others_stay : (k : ℕ) → is_place k (users_at l at ++ at ∷ []) ≡ false → AreFlagsAt Forth l made_now found r k
  others_stay k h row stands =
      let parts = or_parts (is_place k (users_at l at)) (is_place k (at ∷ [])) (sym (list_any-append (λ j. k == j) (users_at l at) (at ∷ [])) ∙ h) in
      let apart : k ≡ at → ⊥ = λ e. true≢false (sym (ap (λ b. b || false) (eq-eqb k at e)) ∙ parts.1) in
      let its = its_row in
      let it = row_at (source_members s) l a k row stands in
      let unneeded : is_place at row.needs.items ≡ false =
      ap (λ o. is_place at (option_map_or (λ (x : Placed). x.needs.items) o [])) (sym stands) ∙ sym (a.users at k) ∙ parts.0 in
      let not_among = not_needed s l a path at its.0 its.1 its.2 k it.0 it.1 parts.0 in
      let old_flags = is.flags k row stands in
      let same_found : found_in found k ≡ found_in was k = ap (option_and_then (λ (e : Option Found). e)) (gone.same k it.0 it.1 not_among) in
      record {
        first = first_stays k row stands;
        ready = λ rank g.
            old_flags.ready rank g ∙ ap (λ b. b && not (is_made_in old k)) (sym (all_else old at n row.needs.items unneeded))
            ∙ ap (λ b. are_made_in made_now row.needs.items && not b) (sym (made_else old at n k apart));
        unsound =
            old_flags.unsound ∙ ap (λ b. b && not (is_sound (found_in was k))) (sym (all_else old at n row.needs.items unneeded))
            ∙ ap (λ o. are_made_in made_now row.needs.items && not (is_sound o)) (sym same_found);
      }

  made_so : (new : Readiness) → Touches Forth l made_now found (λ k. is_place k (users_at l at ++ at ∷ []) ≡ true) r new → IsReadiness Forth l made_now found new
  made_so new t =
      let did = t is.shaped first_stays in
      record { shaped = did.shaped; flags = λ k. by k (is_place k (users_at l at ++ at ∷ [])) refl did }
    where
      by : (k : ℕ) (b : Bool) → is_place k (users_at l at ++ at ∷ []) ≡ b → IsTouched Forth l made_now found (λ k. is_place k (users_at l at ++ at ∷ []) ≡ true) r new → AreFlagsAt Forth l made_now found new k
      by k true e did = did.there k e
      by k false e did = did.kept k (others_stay k e)

pub made_ahead : (old : Ahead) (made : List (Option ℕ)) (found : List (Option Found)) (at : ℕ) (new : Readiness)
    → Touches Forth old.layout made found (λ k. is_place k (users_at old.layout at ++ at ∷ []) ≡ true) old.readiness new
    → FollowsMade made found at (Some old) (Some (record { layout = old.layout; readiness = new }))
made_ahead old made found at new t s path n were was a place is gone = record {
  forth = a.forth;
  rows = a.rows;
  ready = subst (λ ms. IsReadiness Forth old.layout ms found new) (sym is)
      (made_so old.layout s a.rows path at n place were was found gone old.readiness a.ready new
      (subst (λ ms. Touches Forth old.layout ms found (λ k. is_place k (users_at old.layout at ++ at ∷ []) ≡ true) old.readiness new) is t));
}

-- something is found at a place
pub found_ahead : (old : Ahead) (made : List (Option ℕ)) (found : List (Option Found)) (at : ℕ) (new : Readiness)
    → Touches Forth old.layout made found (λ k. is_place k (at ∷ []) ≡ true) old.readiness new
    → FollowsFound made found at (Some old) (Some (record { layout = old.layout; readiness = new }))
found_ahead old made found at new t s was e a is =
    let did = t a.ready.shaped (λ k row h. (a.ready.flags k row h).first) in
    record {
      forth = a.forth;
      rows = a.rows;
      ready = record {
        shaped = did.shaped;
        flags = λ k. elim (same_or_not k at) [
          | inl same ↦ did.there k (ap (λ b. b || false) (eq-eqb k at same))
          | inr apart ↦ did.kept k (λ row h.
              subst (λ o. HasFlags made row.needs.items (is_sound o) k old.readiness)
              (sym (ap (λ fs. found_in fs k) is ∙ ap (option_and_then (λ (x : Option Found). x)) (read_else was at k e apart)))
              (a.ready.flags k row h))
        ];
      };
    }

pub ahead_with : (layout : Layout) (made : List (Option ℕ)) (found : List (Option Found)) (r : Readiness)
    → ((s : StackState) → AreRows (source_members s) layout → IsReadiness Forth layout made found r)
    → (s : StackState) → GoesForth s → AreRows (source_members s) layout → IsAhead s made found (record { layout = layout; readiness = r })
ahead_with layout made found r h s forth rows = record { forth = forth; rows = rows; ready = h s rows }
