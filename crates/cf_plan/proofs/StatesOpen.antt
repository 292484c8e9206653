-- What is at fault and what may begin, by what is known of each path; and whether the phase has failed on the way.
use Rattle.std.proofs.Common.{◌≡◌, ◌⊎◌, ◌↔◌, inl, inr, ℕ, Bool, true, false, ◌&&◌, not, List, [], ◌∷◌, Option, Some, None, IsTrue, flat_map, refl, ap, sym, ◌∙◌, subst, cond, true≢false}
use Rattle.std.specs.Prelude.{Result, Ok, Err, IfOk}
use Rattle.std.specs.declared.alloc.AllocError.{AllocError}
use Rattle.std.specs.Option.{option_copied}
use Rattle.std.proofs.lemmas.Bool.{and_from, and_parts}
use Rattle.std.proofs.lemmas.Option.{none-some, same_Some}
use Rattle.cf_tree.specs.Datum.{Data}
use Rattle.cf_tree.specs.declared.request.Request.{Request}
use Rattle.cf_desired.specs.declared.flaw.Flaw.{Flaw}
use Rattle.cf_schema.specs.declared.described.Schema.{Schema}
use Rattle.cf_effect.specs.declared.held.Held.{Held}
use Rattle.cf_effect.specs.World.{StackState, World}
use Rattle.cf_effect.specs.Words.{current_at}
use Rattle.cf_plan.specs.Between.{needs_at}
use Rattle.cf_plan.specs.Causes.{IsFailureOf, or_path}
use Rattle.cf_plan.specs.Failed.{least}
use Rattle.cf_plan.specs.Follow.{IntendsForward, is_free}
use Rattle.cf_plan.specs.Forward.{Finding, Bad, Later, Known, IsDone, IsReady, AllDone, HasFailed, IsBadAt, IsBadPath, evaluated_at, first_failing, plan_now, was_answered_at}
use Rattle.cf_tree.specs.Lists.{there}
use Rattle.cf_tree.specs.Lists.{here}
use Rattle.cf_tree.specs.Lists.{In}
use Rattle.cf_plan.specs.PathStates.{AreStatesOf, are_all_done_at, are_done_at, are_enough, create_of, done_by_places, finding_in, flaw_seen, is_done_at, may_begin, ready_flaw, ready_flaws, starts_from, starts_from_all, starts_of_path, update_of, update_unless}
use Rattle.cf_plan.specs.Start.{Start}
use Rattle.cf_plan.specs.Starts.{AreOpen, update_over, wants_by}
use Rattle.cf_plan.specs.declared.cause.Failure.TheVariants.{Nothing}
use Rattle.cf_plan.specs.declared.forward.Wants.{Wants}
use Rattle.cf_plan.specs.declared.path_state.PathFinding.{PathFinding}
use Rattle.cf_plan.specs.declared.path_state.PathFinding.TheVariants as it
use Rattle.cf_plan.specs.declared.path_state.PathState.{PathState}
use Rattle.cf_plan.proofs.Causing.{bad_same, found_test, in_either, in_left, in_mapped, in_right, mapped_in, test_found}
use Rattle.cf_plan.proofs.Least.{least_in, least_low, least_none}
use Rattle.cf_plan.proofs.Listed.{in_cons, in_none}
use Rattle.cf_plan.proofs.Members.{false_from, is_so, not_so}
use Rattle.cf_plan.proofs.Starting.{intended}
use Rattle.cf_plan.proofs.StartsListed.{at_path, of_path, start}
use Rattle.cf_plan.proofs.StatesDone.{all_done, done_is, needs_done, of_state, read_is, state_of, told_of}

-- members of lists that are put together
pub in_flat : {A B : Type 0} (f : A → List B) (y : B) (xs : List A) → In y (flat_map f xs) → (x : A) × In x xs × In y (f x)
in_flat f y [] i = absurd (in_none i)
in_flat f y (x ∷ xs) i = elim (in_either y (f x) (flat_map f xs) i) [ inl j ↦ (x, here, j) | inr j ↦ (let w = in_flat f y xs j in (w.0, there w.1, w.2)) ]

pub flat_in : {A B : Type 0} (f : A → List B) (y : B) (x : A) (xs : List A) → In x xs → In y (f x) → In y (flat_map f xs)
flat_in f y x [] i j = absurd (in_none i)
flat_in f y x (z ∷ zs) i j = elim (in_cons i) [
  | inl e ↦ in_left y (f z) (flat_map f zs) (subst (λ w. In y (f w)) (sym e) j)
  | inr m ↦ in_right y (f z) (flat_map f zs) (flat_in f y x zs m j)
]

-- a flaw that is seen is found
bad_seen : (f : PathFinding) (flaw : Flaw) → flaw_seen f ≡ Some flaw → finding_in f ≡ Some (Bad flaw)
bad_seen it.Unread flaw e = absurd (none-some flaw e)
bad_seen (it.Bad b) flaw e = ap (λ c. Some (Bad c)) (same_Some b.now flaw e)
bad_seen it.Later flaw e = absurd (none-some flaw e)
bad_seen (it.Known kind props) flaw e = absurd (none-some flaw e)

seen_bad : (f : PathFinding) (flaw : Flaw) → finding_in f ≡ Some (Bad flaw) → flaw_seen f ≡ Some flaw
seen_bad it.Unread flaw e = absurd (none-some (Bad flaw) e)
seen_bad (it.Bad b) flaw e = ap (λ c. Some c) (bad_same b.now flaw (same_Some (Bad b.now) (Bad flaw) e))
seen_bad it.Later flaw e = let no : ⊥ = cc in absurd no
seen_bad (it.Known kind props) flaw e = let no : ⊥ = cc in absurd no

where_so : (b : Bool) (y : Start) (ys : List Start) → In y (cond b ys []) → (b ≡ true) × In y ys
where_so true y ys i = (refl, i)
where_so false y ys i = absurd (in_none i)

so_where : (b : Bool) (y : Start) (ys : List Start) → b ≡ true → In y ys → In y (cond b ys [])
so_where true y ys e i = i
so_where false y ys e i = absurd (true≢false (sym e))

module _ (schemas : List Schema) (s : StackState) where
  abbrev wants_here : PathFinding → Bool → Option Held → Wants
  wants_here f answered held = record { create = create_of schemas s f held; update = update_of schemas f answered held }

  update_same : (path kind : List ℕ) (props : List (List ℕ × Data)) (answered : Bool) (o : Option Held) → answered ≡ was_answered_at path s
      → update_unless schemas answered kind props o ≡ update_over schemas s path kind props o
  update_same path kind props answered None e = refl
  update_same path kind props answered (Some h) e = ap (λ b. update_unless schemas b kind props (Some h)) e

  wants_found : (f : PathFinding) (answered : Bool) (held : Option Held) (path : List ℕ) → answered ≡ was_answered_at path s → held ≡ current_at path s.held
      → (g : Finding) → finding_in f ≡ Some g → wants_here f answered held ≡ wants_by schemas s path g
  wants_found it.Unread answered held path a h g e = absurd (none-some g e)
  wants_found (it.Bad flaw) answered held path a h g e = ap (wants_by schemas s path) (same_Some (Bad flaw.now) g e)
  wants_found it.Later answered held path a h g e = ap (wants_by schemas s path) (same_Some Later g e)
  wants_found (it.Known kind props) answered held path a h g e =
      ap (λ o. wants_here (it.Known kind props) answered o) h
      ∙ ap (λ (u : Option Request). record { create = (wants_by schemas s path (Known kind.now props.now)).create; update = u })
      (update_same path kind.now props.now answered (current_at path s.held) a)
      ∙ ap (wants_by schemas s path) (same_Some (Known kind.now props.now) g e)

module _ (s : StackState) (ps : List PathState) (are : AreStatesOf s ps) (told : IsTrue (are_enough (done_by_places ps) ps)) where
  abbrev done : List Bool
  done = done_by_places ps

  ready_is : (p : PathState) → In p ps → are_done_at done p.needs.now ≡ true → IsReady s p.path.now
  ready_is p i t = (of_state s ps are p i, (needs_done s ps are told p i).1 t)

  is_ready : (q : List ℕ) → IsReady s q → (p : PathState) × In p ps × (p.path.now ≡ q) × (are_done_at done p.needs.now ≡ true)
  is_ready q ready =
      let w = state_of s ps are q ready.0 in
      (w.0, w.1, w.2, (needs_done s ps are told w.0 w.1).0 (subst (λ (n : List ℕ). (m : List ℕ) → In m (needs_at n s) → IsDone s m) (sym w.2) ready.1))

  -- what is found of a ready path is what it comes to
  found_of : (p : PathState) → In p ps → are_done_at done p.needs.now ≡ true → finding_in p.found ≡ Some (evaluated_at p.path.now s)
  found_of p i t =
      let f = read_is p.found (told_of s ps are told p i t) in
      f.1 ∙ ap (λ g. Some g) (sym ((are.each p i).found f.0 f.1))

  bad_is : (q : List ℕ) (f : Flaw) → In (q, f) (ready_flaws done ps) → IsBadAt s q f
  bad_is q f i =
      let (p, at, e) = in_mapped (ready_flaw done) (q, f) ps i in
      let (met, same, flaw) = test_found (are_done_at done p.needs.now) p.path.now (flaw_seen p.found) (q, f) e in
      subst (λ n. IsBadAt s n f) same (ready_is p at met, (are.each p at).found (Bad f) (bad_seen p.found f flaw))

  is_bad : (q : List ℕ) (f : Flaw) → IsBadAt s q f → In (q, f) (ready_flaws done ps)
  is_bad q f (ready, bad) =
      let (p, at, same, met) = is_ready q ready in
      let flaw = seen_bad p.found f (found_of p at met ∙ ap (λ g. Some g) (subst (λ n. evaluated_at n s ≡ Bad f) (sym same) bad)) in
      mapped_in (ready_flaw done) (q, f) p ps at
      (found_test (are_done_at done p.needs.now) p.path.now (flaw_seen p.found) f met flaw ∙ ap (λ n. Some (n, f)) same)

  module _ (schemas : List Schema) (name : List ℕ) (x : World) (none : first_failing schemas s ≡ None) (flat : (plan_now s).nested ≡ []) (left : ¬ AllDone s) where
    from_path : (q : List ℕ) (f : Flaw) → IsBadPath s q f → In (q, f) (ready_flaws done ps)
    from_path q f (inl b) = is_bad q f b
    from_path q f (inr (i, at, same, ready, flaw)) = absurd (in_none (subst (In i) flat at))

    not_failed : ((q : List ℕ) (f : Flaw) → IsBadPath s q f → ⊥) → HasFailed schemas name x s → ⊥
    not_failed n (inl (a, e)) = none-some a (sym none ∙ e)
    not_failed n (inr (inl (q, f, b))) = n q f b
    not_failed n (inr (inr (inl (f, b)))) = left b.0
    not_failed n (inr (inr (inr (export, b)))) = left b.0

    by_path : (o : Option (List ℕ × Flaw)) → least (ready_flaws done ps) ≡ o → IsFailureOf schemas name x s (or_path o Nothing)
    by_path (Some a) k =
        let bad : IsBadPath s a.0 a.1 = inl (bad_is a.0 a.1 (least_in (λ b. b.0) (ready_flaws done ps) a k)) in
        (inr (inl (a.0, a.1, bad)), (a.1, refl, none, inl (a.0, bad, λ q other b. least_low (λ b. b.0) (ready_flaws done ps) a k (q, other) (from_path q other b))))
    by_path None k = not_failed (λ q f b. least_none (λ b. b.0) (ready_flaws done ps) k (q, f) (from_path q f b))

    pub failed_on_the_way : IsFailureOf schemas name x s (or_path (least (ready_flaws done ps)) Nothing)
    failed_on_the_way = by_path (least (ready_flaws done ps)) refl

  module _ (schemas : List Schema) where
    wants_are : (p : PathState) → In p ps → are_done_at done p.needs.now ≡ true
        → wants_here schemas s p.found p.is_answered (option_copied p.held) ≡ wants_by schemas s p.path.now (evaluated_at p.path.now s)
    wants_are p i t =
        let e = are.each p i in
        wants_found schemas s p.found p.is_answered (option_copied p.held) p.path.now e.answered e.held (evaluated_at p.path.now s) (found_of p i t)

    abbrev IsOpen : List ℕ → Request → Type 0
    IsOpen path r = IsReady s path × (¬ IsDone s path) × IsTrue (is_free path s) × IntendsForward schemas s path r

    open_is : (path : List ℕ) (r : Request) → In (start path r) (starts_from_all schemas s done ps) → IsOpen path r
    open_is path r i =
        let (p, at, j) = in_flat (starts_from schemas s done) (start path r) ps i in
        let (may, k) = where_so (may_begin s done p) (start path r) (starts_of_path schemas s p) j in
        let to_do = and_parts (not (is_done_at done p.place)) (are_done_at done p.needs.now && is_free p.path.now s) may in
        let met = and_parts (are_done_at done p.needs.now) (is_free p.path.now s) to_do.1 in
        let w = of_path path r (p.path.now, wants_here schemas s p.found p.is_answered (option_copied p.held)) k in
        let wants = subst (λ (o : Wants). (o.create ≡ Some r) ⊎ (o.update ≡ Some r)) (wants_are p at met.0) w.1 in
        subst (λ n. IsOpen n r) (sym w.0) (
          ready_is p at met.0,
          (λ d. true≢false (sym ((done_is s ps are told p at).0 d) ∙ is_so (is_done_at done p.place) to_do.0)),
          met.1,
          (intended schemas s p.path.now (evaluated_at p.path.now s) refl r).1 wants,
        )

    is_open : (path : List ℕ) (r : Request) → IsOpen path r → In (start path r) (starts_from_all schemas s done ps)
    is_open path r (ready, left, free, intends) =
        let (p, at, same, met) = is_ready path ready in
        let to_do = not_so (is_done_at done p.place) (false_from (is_done_at done p.place) (λ t. left (subst (IsDone s) same ((done_is s ps are told p at).1 t)))) in
        let may = and_from (not (is_done_at done p.place)) _ to_do
        (and_from (are_done_at done p.needs.now) (is_free p.path.now s) met (subst (λ n. is_free n s ≡ true) (sym same) free)) in
        let wants = (intended schemas s p.path.now (evaluated_at p.path.now s) refl r).0 (subst (λ n. IntendsForward schemas s n r) (sym same) intends) in
        let w = subst (λ (o : Wants). (o.create ≡ Some r) ⊎ (o.update ≡ Some r)) (sym (wants_are p at met)) wants in
        subst (λ n. In (start n r) (starts_from_all schemas s done ps)) same
        (flat_in (starts_from schemas s done) (start p.path.now r) p ps at
        (so_where (may_begin s done p) (start p.path.now r) (starts_of_path schemas s p) may
        (at_path p.path.now r (wants_here schemas s p.found p.is_answered (option_copied p.held)) w)))

    pub are_open_by : AreOpen schemas s (starts_from_all schemas s done ps)
    are_open_by path r = (is_open path r, open_is path r)

-- by what code has
pub failed_by_path :
    (schemas : List Schema) (name : List ℕ) (x : World) (s : StackState) (ps : List PathState) (marks : List Bool) → AreStatesOf s ps → marks ≡ done_by_places ps
    → IsTrue (are_enough marks ps) → (plan_now s).nested ≡ [] → (¬ AllDone s) → first_failing schemas s ≡ None
    → IsFailureOf schemas name x s (or_path (least (ready_flaws marks ps)) Nothing)
failed_by_path schemas name x s ps marks are e told flat left none =
    subst (λ d. IsFailureOf schemas name x s (or_path (least (ready_flaws d ps)) Nothing)) (sym e)
    (failed_on_the_way s ps are (subst (λ d. are_enough d ps ≡ true) e told) schemas name x none flat left)

pub open_by :
    (schemas : List Schema) (s : StackState) (ps : List PathState) (marks : List Bool) → AreStatesOf s ps → marks ≡ done_by_places ps → IsTrue (are_enough marks ps)
    → AreOpen schemas s (starts_from_all schemas s marks ps)
open_by schemas s ps marks are e told =
    subst (λ d. AreOpen schemas s (starts_from_all schemas s d ps)) (sym e) (are_open_by s ps are (subst (λ d. are_enough d ps ≡ true) e told) schemas)

pub all_done_by :
    (s : StackState) (ps : List PathState) (marks : List Bool) → AreStatesOf s ps → marks ≡ done_by_places ps → IsTrue (are_enough marks ps)
    → IsTrue (are_all_done_at marks ps) ↔ AllDone s
all_done_by s ps marks are e told =
    subst (λ d. IsTrue (are_all_done_at d ps) ↔ AllDone s) (sym e) (all_done s ps are (subst (λ d. are_enough d ps ≡ true) e told))

pub starts_told : (r : Result (List Start) AllocError) (v : List Start) (P : List Start → Type 0) → IfOk r (λ l. l ≡ v) → P v → IfOk r P
starts_told (Ok l) v P e p = subst P (sym e) p
starts_told (Err a) v P e p = tt
