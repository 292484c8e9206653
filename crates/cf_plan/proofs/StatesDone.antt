-- Which paths are done by what is known of each, one after another, are those that are done; and what is ready, at fault and may
-- begin by that is so.
use Rattle.std.proofs.Common.{◌≡◌, ◌↔◌, inl, inr, ℕ, zero, suc, ◌+◌, ◌<◌, ◌≤◌, Bool, true, false, ◌&&◌, ◌||◌, not, List, [], ◌∷◌, ◌++◌, Option, Some, None, IsTrue, fold, length, map, option_map, refl, ap, sym, ◌∙◌, subst, arith, true≢false}
use Rattle.std.specs.Prelude.{is_some, unwrap_or}
use Rattle.std.specs.List.{slice_get}
use Rattle.std.specs.Option.{option_copied}
use Rattle.std.proofs.lemmas.Bool.{and_from, and_parts}
use Rattle.std.proofs.lemmas.Option.{none-some, same_Some, slice_get-map}
use Rattle.cf_tree.specs.Datum.{Data}
use Rattle.cf_effect.specs.declared.held.Held.{Held}
use Rattle.cf_effect.specs.World.{StackState}
use Rattle.cf_effect.specs.Words.{current_at}
use Rattle.cf_plan.specs.Between.{needs_at}
use Rattle.cf_plan.specs.Forward.{Finding, Bad, Later, Known, IsDone, is_made, is_updated, is_right, AllDone, evaluated_at, wanted_paths, was_updated_at}
use Rattle.cf_tree.specs.Lists.{there}
use Rattle.cf_tree.specs.Lists.{here}
use Rattle.cf_tree.specs.Lists.{In}
use Rattle.cf_plan.specs.PathStates.{AreInPlace, AreStatesOf, are_all_done_at, are_done_at, are_enough, done_by_places, finding_in, has_props, is_as_wanted, is_done_at, is_done_by, is_read, is_enough, with_done}
use Rattle.cf_plan.specs.declared.path_state.PathFinding.{PathFinding}
use Rattle.cf_plan.specs.declared.path_state.PathFinding.TheVariants as it
use Rattle.cf_plan.specs.declared.path_state.PathState.{PathState}
use Rattle.cf_plan.proofs.Doing.{some_is}
use Rattle.cf_plan.proofs.Findings.{known_has}
use Rattle.cf_plan.proofs.Listed.{in_cons, in_map, in_none, or_cases, or_left, or_right}
use Rattle.cf_plan.proofs.Causing.{map_in}
use Rattle.cf_plan.proofs.Members.{all_in, in_all, is_so, not_so}

-- places in a list that grows at its end
module _ {A : Type 0} where
  pub at_front : (xs ys : List A) (i : ℕ) → i < length xs → slice_get (xs ++ ys) i ≡ slice_get xs i
  at_front [] ys i l = absurd (omega (arith, l))
  at_front (x ∷ xs) ys zero l = refl
  at_front (x ∷ xs) ys (suc i) l = at_front xs ys i (omega (arith, l))

  pub at_seam : (xs : List A) (y : A) (ys : List A) → slice_get (xs ++ y ∷ ys) (length xs) ≡ Some y
  at_seam [] y ys = refl
  at_seam (x ∷ xs) y ys = at_seam xs y ys

  pub at_in : (xs : List A) (i : ℕ) (x : A) → slice_get xs i ≡ Some x → In x xs
  at_in [] i x e = absurd (none-some x e)
  at_in (y ∷ ys) zero x e = subst (λ z. In z (y ∷ ys)) (same_Some y x e) here
  at_in (y ∷ ys) (suc i) x e = there (at_in ys i x e)

  pub in_place : (xs : List A) (x : A) → In x xs → (i : ℕ) × (slice_get xs i ≡ Some x)
  in_place (x ∷ xs) _ here = (0, refl)
  in_place (y ∷ xs) x (there i) = let w = in_place xs x i in (suc w.0, w.1)
  in_place [] x i = absurd (in_none i)

-- the state at a place has it
pub at_its_place : (first : ℕ) (ps : List PathState) → AreInPlace first ps → (i : ℕ) (p : PathState) → slice_get ps i ≡ Some p → p.place ≡ first + i
at_its_place first [] a i p e = absurd (none-some p e)
at_its_place first (q ∷ ps) a zero p e = let h = ap (λ (r : PathState). r.place) (same_Some q p e) in let k = a.0 in omega (arith, h, k)
at_its_place first (q ∷ ps) a (suc i) p e = let h = at_its_place (suc first) ps a.1 i p e in omega (arith, h)

-- what a pass adds does not change what came before
module _ where
  pub grown : (xs : List Bool) (x : Bool) → length (xs ++ x ∷ []) ≡ suc (length xs)
  grown [] x = refl
  grown (y ∷ ys) x = ap suc (grown ys x)

  pub stays : (ps : List PathState) (done : List Bool) (j : ℕ) → j < length done → slice_get (fold with_done done ps) j ≡ slice_get done j
  stays [] done j l = refl
  stays (p ∷ ps) done j l =
      let g = grown done (is_done_by done p) in
      stays ps (with_done done p) j (omega (arith, l, g)) ∙ at_front done (is_done_by done p ∷ []) j l

  all_stay : (ps : List PathState) (done : List Bool) (js : List ℕ) (k : ℕ) → ((j : ℕ) → In j js → j < k) → k ≤ length done
      → are_done_at (fold with_done done ps) js ≡ are_done_at done js
  all_stay ps done [] k h l = refl
  all_stay ps done (j ∷ js) k h l =
      let less = h j here in
      ap (λ o. unwrap_or o false && are_done_at (fold with_done done ps) js) (stays ps done j (omega (arith, less, l)))
      ∙ ap (λ c. is_done_at done j && c) (all_stay ps done js k (λ i m. h i (there m)) l)

-- what is said of a path by those before it is said of it by all
pub done_holds :
    (ps : List PathState) (done : List Bool) → AreInPlace (length done) ps → ((p : PathState) → In p ps → (j : ℕ) → In j p.needs.now → j < p.place)
    → (p : PathState) → In p ps → is_done_at (fold with_done done ps) p.place ≡ is_done_by (fold with_done done ps) p
done_holds [] done a before p i = absurd (in_none i)
done_holds (q ∷ ps) done a before p i = elim (in_cons i) [
  | inl e ↦ subst (λ r. is_done_at (fold with_done done (q ∷ ps)) r.place ≡ is_done_by (fold with_done done (q ∷ ps)) r) e (
      let g = grown done (is_done_by done q) in
      let at = stays ps (with_done done q) (length done) (omega (arith, g)) ∙ at_seam done (is_done_by done q) [] in
      let place = a.0 in
      ap (λ j. is_done_at (fold with_done done (q ∷ ps)) j) place ∙ ap (λ o. unwrap_or o false) at
      ∙ ap (λ c. q.is_made || (q.is_updated || (c && is_as_wanted q.found (option_copied q.held))))
      (sym (all_stay (q ∷ ps) done q.needs.now q.place (before q here) (omega (arith, place)))))
  | inr m ↦ done_holds ps (with_done done q)
      (subst (λ k. AreInPlace k ps) (sym (grown done (is_done_by done q))) a.1) (λ r n. before r (there n)) p m
]

all_at : (done : List Bool) (js : List ℕ) → are_done_at done js ≡ true → (j : ℕ) → In j js → is_done_at done j ≡ true
all_at done js e j i = all_in (λ k. is_done_at done k) js e j i

pub read_is : (f : PathFinding) → is_read f ≡ true → (g : Finding) × (finding_in f ≡ Some g)
read_is it.Unread e = absurd (true≢false (sym e))
read_is (it.Bad flaw) e = (Bad flaw.now, refl)
read_is it.Later e = (Later, refl)
read_is (it.Known kind props) e = (Known kind.now props.now, refl)

has_is : (f : PathFinding) (k : List ℕ) (ps : List (List ℕ × Data)) → has_props f k ps ≡ true → finding_in f ≡ Some (Known k ps)
has_is it.Unread k ps e = absurd (true≢false (sym e))
has_is (it.Bad flaw) k ps e = absurd (true≢false (sym e))
has_is it.Later k ps e = absurd (true≢false (sym e))
has_is (it.Known kind props) k ps e = ap (λ g. Some g) ((known_has (Known kind.now props.now) kind.now k props.now ps (has_props (it.Known kind props) k ps) refl refl).0 e)

is_has : (f : PathFinding) (k : List ℕ) (ps : List (List ℕ × Data)) → finding_in f ≡ Some (Known k ps) → has_props f k ps ≡ true
is_has it.Unread k ps e = absurd (none-some (Known k ps) e)
is_has (it.Bad flaw) k ps e = let no : ⊥ = cc in absurd no
is_has it.Later k ps e = let no : ⊥ = cc in absurd no
is_has (it.Known kind props) k ps e =
    (known_has (Known kind.now props.now) kind.now k props.now ps (has_props (it.Known kind props) k ps) refl refl).1 (same_Some (Known kind.now props.now) (Known k ps) e)

wanted_is : (f : PathFinding) (o : Option Held) → is_as_wanted f o ≡ true → (h : Held) × (o ≡ Some h) × (h.unsure ≡ false) × (finding_in f ≡ Some (Known h.kind h.props))
wanted_is f None e = absurd (true≢false (sym e))
wanted_is f (Some h) e =
    let k = and_parts (not h.unsure) (has_props f h.kind h.props) e in (h, refl, is_so h.unsure k.0, has_is f h.kind h.props k.1)

is_wanted : (f : PathFinding) (o : Option Held) (h : Held) → o ≡ Some h → h.unsure ≡ false → finding_in f ≡ Some (Known h.kind h.props) → is_as_wanted f o ≡ true
is_wanted f o h e u g = ap (is_as_wanted f) e ∙ and_from (not h.unsure) (has_props f h.kind h.props) (not_so h.unsure u) (is_has f h.kind h.props g)

told_read : (f : PathFinding) (b : Bool) → (is_read f || not b) ≡ true → b ≡ true → is_read f ≡ true
told_read f b e t = elim (or_cases (is_read f) (not b) e) [ inl k ↦ k | inr n ↦ absurd (true≢false (sym t ∙ is_so b n)) ]

module _ (s : StackState) (ps : List PathState) (are : AreStatesOf s ps) where
  abbrev done : List Bool
  done = done_by_places ps

  -- the state of a wanted path, and that at the place of one
  pub state_of : (q : List ℕ) → In q (wanted_paths s) → (p : PathState) × In p ps × (p.path.now ≡ q)
  state_of q i = map_in (λ (p : PathState). p.path.now) q ps (subst (In q) (sym are.paths) i)

  pub of_state : (p : PathState) → In p ps → In p.path.now (wanted_paths s)
  of_state p i = subst (In p.path.now) are.paths (in_map (λ (r : PathState). r.path.now) p ps i)

  of_mapped : (o : Option PathState) (j : ℕ) (q : List ℕ) → slice_get ps j ≡ o → option_map (λ (p : PathState). p.path.now) o ≡ Some q
      → (p : PathState) × In p ps × (p.place ≡ j) × (p.path.now ≡ q)
  of_mapped None j q e f = absurd (none-some q f)
  of_mapped (Some p) j q e f = (p, at_in ps j p e, (let k = at_its_place 0 ps are.places j p e in omega (arith, k)), same_Some p.path.now q f)

  at_place : (j : ℕ) (q : List ℕ) → slice_get (wanted_paths s) j ≡ Some q → (p : PathState) × In p ps × (p.place ≡ j) × (p.path.now ≡ q)
  at_place j q e =
      of_mapped (slice_get ps j) j q refl (sym (slice_get-map (λ (p : PathState). p.path.now) ps j) ∙ ap (λ xs. slice_get xs j) are.paths ∙ e)

  -- what a path needs, by place
  need_at : (js : List ℕ) (qs : List (List ℕ)) → map (λ j. slice_get (wanted_paths s) j) js ≡ map (λ q. Some q) qs
      → (q : List ℕ) → In q qs → (j : ℕ) × In j js × (slice_get (wanted_paths s) j ≡ Some q)
  need_at js qs e q i =
      let w = map_in (λ j. slice_get (wanted_paths s) j) (Some q) js (subst (In (Some q)) (sym e) (in_map (λ r. Some r) q qs i)) in w

  need_of : (js : List ℕ) (qs : List (List ℕ)) → map (λ j. slice_get (wanted_paths s) j) js ≡ map (λ q. Some q) qs
      → (j : ℕ) → In j js → (q : List ℕ) × In q qs × (slice_get (wanted_paths s) j ≡ Some q)
  need_of js qs e j i =
      let w = map_in (λ q. Some q) (slice_get (wanted_paths s) j) qs (subst (In (slice_get (wanted_paths s) j)) e (in_map (λ k. slice_get (wanted_paths s) k) j js i)) in
      (w.0, w.1, sym w.2)

  holds : (p : PathState) → In p ps → is_done_at done p.place ≡ is_done_by done p
  holds p i = done_holds ps [] are.places (λ r m. (are.each r m).before) p i

  module _ (told : IsTrue (are_enough done ps)) where
    pub told_of : (p : PathState) → In p ps → are_done_at done p.needs.now ≡ true → is_read p.found ≡ true
    told_of p i t = told_read p.found (are_done_at done p.needs.now) (all_in (is_enough done) ps told p i) t

    -- each that is done is found
    complete : (q : List ℕ) → IsDone s q → (p : PathState) → In p ps → p.path.now ≡ q → is_done_at done p.place ≡ true
    complete q (is_made r e) p i same =
        holds p i ∙ or_left p.is_made _ ((are.each p i).made ∙ ap is_some (subst (λ n. current_at n s.made ≡ Some r) (sym same) e))
    complete q (is_updated t) p i same =
        holds p i ∙ or_right p.is_made _ (or_left p.is_updated _ ((are.each p i).updated ∙ subst (λ n. was_updated_at n s ≡ true) (sym same) t))
    complete q (is_right h w needs at sure props) p i same =
        let e = are.each p i in
        let met = in_all (λ j. is_done_at done j) p.needs.now (λ j m.
        let n = need_of p.needs.now (needs_at p.path.now s) e.needs j m in
        let r = at_place j n.0 n.2 in
        subst (λ k. is_done_at done k ≡ true) r.2 (complete n.0 (needs n.0 (subst (λ k. In n.0 (needs_at k s)) same n.1)) r.0 r.1 r.3)) in
        let f = read_is p.found (told_of p i met) in
        let found = f.1 ∙ ap (λ g. Some g) (sym (e.found f.0 f.1) ∙ subst (λ k. evaluated_at k s ≡ Known h.kind h.props) (sym same) props) in
        let held = e.held ∙ subst (λ k. current_at k s.held ≡ Some h) (sym same) at in
        holds p i ∙ or_right p.is_made _ (or_right p.is_updated _
        (and_from (are_done_at done p.needs.now) _ met (is_wanted p.found (option_copied p.held) h held sure found)))

    -- and each that is found is done
    sound : (k : ℕ) (p : PathState) → In p ps → p.place < k → is_done_at done p.place ≡ true → IsDone s p.path.now
    sound zero p i l t = absurd (omega (arith, l))
    sound (suc k) p i l t =
        let e = are.each p i in
        elim (or_cases p.is_made _ (sym (holds p i) ∙ t)) [
          | inl m ↦ (let r = some_is (current_at p.path.now s.made) (sym e.made ∙ m) in is_made r.0 r.1)
          | inr u ↦ elim (or_cases p.is_updated _ u) [
            | inl m ↦ is_updated (sym e.updated ∙ m)
            | inr m ↦ (
                let both = and_parts (are_done_at done p.needs.now) (is_as_wanted p.found (option_copied p.held)) m in
                let w = wanted_is p.found (option_copied p.held) both.1 in
                is_right w.0 (of_state p i) (λ q n.
                let j = need_at p.needs.now (needs_at p.path.now s) e.needs q n in
                let r = at_place j.0 q j.2 in
                let less = e.before j.0 j.1 in let at = r.2 in
                subst (IsDone s) r.3 (sound k r.0 r.1 (omega (arith, less, at, l)) (subst (λ c. is_done_at done c ≡ true) (sym at) (all_at done p.needs.now both.0 j.0 j.1))))
                (sym e.held ∙ w.1) w.2 (e.found _ w.3))
          ]
        ]

    pub done_is : (p : PathState) → In p ps → IsDone s p.path.now ↔ IsTrue (is_done_at done p.place)
    done_is p i = (λ d. complete p.path.now d p i refl, λ t. sound (suc p.place) p i (omega arith) t)

    -- ready
    pub needs_done : (p : PathState) → In p ps → ((q : List ℕ) → In q (needs_at p.path.now s) → IsDone s q) ↔ IsTrue (are_done_at done p.needs.now)
    needs_done p i =
        let e = are.each p i in (
          λ h. in_all (λ j. is_done_at done j) p.needs.now (λ j m.
              let n = need_of p.needs.now (needs_at p.path.now s) e.needs j m in
              let r = at_place j n.0 n.2 in
              subst (λ k. is_done_at done k ≡ true) r.2 (complete n.0 (h n.0 n.1) r.0 r.1 r.3)),
          λ t q n.
              let j = need_at p.needs.now (needs_at p.path.now s) e.needs q n in
              let r = at_place j.0 q j.2 in
              subst (IsDone s) r.3 ((done_is r.0 r.1).1 (subst (λ c. is_done_at done c ≡ true) (sym r.2) (all_at done p.needs.now t j.0 j.1))),
        )

    -- all are done
    pub all_done : IsTrue (are_all_done_at done ps) ↔ AllDone s
    all_done = (
      λ t q i. let p = state_of q i in subst (IsDone s) p.2 ((done_is p.0 p.1).1 (all_in (λ (r : PathState). is_done_at done r.place) ps t p.0 p.1)),
      λ h. in_all (λ (r : PathState). is_done_at done r.place) ps (λ r i. (done_is r i).0 (h r.path.now (of_state r i))),
    )
