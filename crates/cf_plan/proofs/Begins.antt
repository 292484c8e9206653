-- What may begin, by path.
use Rattle.std.proofs.Common.{◌≡◌, inl, inr, ℕ, suc, ◌+◌, ◌<◌, Bool, true, false, ◌&&◌, ◌||◌, not, Some, None, List, [], ◌∷◌, ◌++◌, IsTrue, length, take, get_or, map, refl, ap, sym, ◌∙◌, subst, arith, if◌then◌else◌, true≢false}
use Rattle.std.specs.Prelude.{fold, Result, Ok, Err, IfOk}
use Rattle.std.specs.declared.alloc.AllocError.{AllocError}
use Rattle.std.specs.List.{list_all}
use Rattle.std.specs.Str.{bytes_eq}
use Rattle.std.proofs.lemmas.List.Sums.{fold-append}
use Rattle.std.proofs.lemmas.Bool.{and_from, and_parts}
use Rattle.cf_tree.specs.Keys.{put, value_at}
use Rattle.cf_tree.specs.declared.request.Request.{Request}
use Rattle.cf_tree.specs.Lists.{is_among}
use Rattle.cf_tree.proofs.Lookups.{put_here, put_else}
use Rattle.cf_desired.specs.declared.wanted.Wanted.{Wanted}
use Rattle.cf_desired.specs.declared.wanted.Plan.{Plan}
use Rattle.cf_schema.specs.declared.described.Schema.{Schema}
use Rattle.cf_effect.specs.World.{StackState}
use Rattle.cf_plan.specs.declared.forward.Wants.{Wants}
use Rattle.cf_plan.specs.Between.{needs_at}
use Rattle.cf_plan.specs.Forward.{IsDone, IsReady, finding_by, plan_now}
use Rattle.cf_tree.specs.Lists.{there}
use Rattle.cf_tree.specs.Lists.{here}
use Rattle.cf_tree.specs.Lists.{In}
use Rattle.cf_plan.specs.Follow.{IntendsForward, is_free}
use Rattle.cf_plan.specs.Done.{AreDone, HasTerms, are_met, planned_needs}
use Rattle.cf_plan.specs.Starts.{AreRequests, IsWanted, may_start, starts_by, wants_by, with_start}
use Rattle.cf_plan.proofs.Doing.{all_met, met_all}
use Rattle.cf_plan.proofs.Listed.{bytes_same, in_cons, in_none, map_more, or_cases, or_left, or_right, same_bytes}
use Rattle.cf_plan.proofs.Starting.{intended}

not_true : (b : Bool) → (b ≡ true → ⊥) → not b ≡ true
not_true true h = absurd (h refl)
not_true false h = refl

true_not : (b : Bool) → not b ≡ true → b ≡ true → ⊥
true_not b e k = true≢false (sym e ∙ ap not k)

in_among : (p : List ℕ) (ps : List (List ℕ)) → In p ps → is_among p ps ≡ true
in_among p [] i = absurd (in_none i)
in_among p (q ∷ qs) i = elim (in_cons i) [
  | inl e ↦ or_left (bytes_eq p q) (is_among p qs) (subst (λ z. bytes_eq p z ≡ true) (sym e) (same_bytes p))
  | inr j ↦ or_right (bytes_eq p q) (is_among p qs) (in_among p qs j)
]

among_in : (p : List ℕ) (ps : List (List ℕ)) → is_among p ps ≡ true → In p ps
among_in p [] e = absurd (true≢false (sym e))
among_in p (q ∷ qs) e = elim (or_cases (bytes_eq p q) (is_among p qs) e) [
  | inl k ↦ subst (λ z. In p (z ∷ qs)) (bytes_same p q k) here
  | inr k ↦ there (among_in p qs k)
]

-- a choice after another one
chosen : {A : Type 0} (a b m : Bool) (x y : A) → (if b && m then x else (if a && m then x else y)) ≡ (if (a || b) && m then x else y)
chosen true true true x y = refl
chosen true true false x y = refl
chosen true false true x y = refl
chosen true false false x y = refl
chosen false true true x y = refl
chosen false true false x y = refl
chosen false false true x y = refl
chosen false false false x y = refl

module _ (schemas : List Schema) (s : StackState) (before now : Plan) (done : List (List ℕ)) where
  abbrev M : Type 0
  M = List (List ℕ × Wants)

  abbrev w_of : List ℕ → Wants
  w_of p = wants_by schemas s p (finding_by p now)

  abbrev over : M → List ℕ → M
  over = with_start schemas s before now done

  abbrev open_at : List ℕ → Bool
  open_at p = may_start s before done p

  one_by : (acc : M) (q p : List ℕ) (e m : Bool) → bytes_eq p q ≡ e → open_at q ≡ m → value_at p (over acc q) ≡ (if bytes_eq p q && open_at p then Some (w_of p) else value_at p acc)
  one_by acc q p true true k l =
      let same = bytes_same p q k in
      let m : open_at p ≡ true = ap open_at same ∙ l in
      let goal : (if bytes_eq p q && open_at p then Some (w_of p) else value_at p acc) ≡ Some (w_of p) = rw k (rw m refl) in
      let step : over acc q ≡ put q (w_of q) acc = rw l refl in
      ap (value_at p) step ∙ ap (λ z. value_at p (put z (w_of z) acc)) (sym same) ∙ put_here p (w_of p) acc ∙ sym goal
  one_by acc q p true false k l =
      let m : open_at p ≡ false = ap open_at (bytes_same p q k) ∙ l in
      let goal : (if bytes_eq p q && open_at p then Some (w_of p) else value_at p acc) ≡ value_at p acc = rw k (rw m refl) in
      let step : over acc q ≡ acc = rw l refl in
      ap (value_at p) step ∙ sym goal
  one_by acc q p false true k l =
      let goal : (if bytes_eq p q && open_at p then Some (w_of p) else value_at p acc) ≡ value_at p acc = rw k refl in
      let step : over acc q ≡ put q (w_of q) acc = rw l refl in
      ap (value_at p) step ∙ put_else p q (w_of q) acc k ∙ sym goal
  one_by acc q p false false k l =
      let goal : (if bytes_eq p q && open_at p then Some (w_of p) else value_at p acc) ≡ value_at p acc = rw k refl in
      let step : over acc q ≡ acc = rw l refl in
      ap (value_at p) step ∙ sym goal

  pub all_starts : (qs : List (List ℕ)) (acc : M) (p : List ℕ) → value_at p (fold over acc qs) ≡ (if is_among p qs && open_at p then Some (w_of p) else value_at p acc)
  all_starts [] acc p = refl
  all_starts (q ∷ qs) acc p =
      all_starts qs (over acc q) p
      ∙ ap (λ y. if is_among p qs && open_at p then Some (w_of p) else y) (one_by acc q p (bytes_eq p q) (open_at q) refl refl)
      ∙ chosen (bytes_eq p q) (is_among p qs) (open_at p) (Some (w_of p)) (value_at p acc)

  -- one more path is folded in
  pub one_more :
      (ws : List Wanted) (i : ℕ) (w : Wanted) (mid new : M) → i < length ws → w ≡ get_or ws i w →
      mid ≡ fold over [] (map (λ (v : Wanted). v.path) (take i ws)) → new ≡ over mid w.path →
      new ≡ fold over [] (map (λ (v : Wanted). v.path) (take (i + 1) ws))
  one_more ws i w mid new l at was is =
      let next : suc i ≡ i + 1 = omega arith in
      let path : w.path ≡ (get_or ws i w).path = ap (λ (v : Wanted). v.path) at in
      is ∙ ap (λ m. over m w.path) was ∙ sym (fold-append over [] (map (λ (v : Wanted). v.path) (take i ws)) (w.path ∷ []))
      ∙ ap (λ q. fold over [] (map (λ (v : Wanted). v.path) (take i ws) ++ q ∷ [])) path
      ∙ ap (fold over []) (sym (map_more (λ (v : Wanted). v.path) ws i w l)) ∙ ap (λ k. fold over [] (map (λ (v : Wanted). v.path) (take k ws))) next

module _ (schemas : List Schema) (s : StackState) (done : List (List ℕ)) (are : AreDone s done) (terms : Plan) (terms_are : HasTerms s terms) where
  abbrev starts : List (List ℕ × Wants)
  starts = starts_by schemas s terms (plan_now s) done

  abbrev wants : List (List ℕ)
  wants = map (λ (w : Wanted). w.path) terms.wanted

  value_is : (p : List ℕ) (b : Bool) → (is_among p wants && may_start s terms done p) ≡ b → value_at p starts ≡ (if b then Some (wants_by schemas s p (finding_by p (plan_now s))) else None)
  value_is p b e = all_starts schemas s terms (plan_now s) done wants [] p ∙ ap (λ c. if c then Some (wants_by schemas s p (finding_by p (plan_now s))) else None) e

  may_begin : (p : List ℕ) (r : Request) → (IsReady s p × ¬ IsDone s p × IsTrue (is_free p s) × IntendsForward schemas s p r) → IsWanted (value_at p starts) r
  may_begin p r ((wanted, ready), new, free, intends) =
      let met = subst (λ ns. list_all (λ n. is_among n done) ns ≡ true) (sym (terms_are.needs p)) (met_all (needs_at p s) done (λ q m. (are q).0 (ready q m))) in
      let free_to = and_from (not (is_among p done)) (are_met p terms done && is_free p s) (not_true (is_among p done) (λ e. new ((are p).1 e))) (and_from (are_met p terms done) (is_free p s) met free) in
      let value = value_is p true (and_from (is_among p wants) (may_start s terms done p) (in_among p wants (subst (In p) (sym terms_are.paths) wanted)) free_to) in
      subst (λ o. IsWanted o r) (sym value) ((intended schemas s p (finding_by p (plan_now s)) refl r).0 intends)

  by_open : (p : List ℕ) (r : Request) (b : Bool) → (is_among p wants && may_start s terms done p) ≡ b → IsWanted (if b then Some (wants_by schemas s p (finding_by p (plan_now s))) else None) r → IsReady s p × ¬ IsDone s p × IsTrue (is_free p s) × IntendsForward schemas s p r
  by_open p r false e i = absurd i
  by_open p r true e i =
      let (among, free_to) = and_parts (is_among p wants) (may_start s terms done p) e in
      let (new, rest) = and_parts (not (is_among p done)) (are_met p terms done && is_free p s) free_to in
      let (met, free) = and_parts (are_met p terms done) (is_free p s) rest in (
        (subst (In p) terms_are.paths (among_in p wants among), λ q m. (are q).1 (all_met (planned_needs p terms) done met q (subst (In q) (sym (terms_are.needs p)) m))),
        (λ d. true_not (is_among p done) new ((are p).0 d)),
        free,
        (intended schemas s p (finding_by p (plan_now s)) refl r).1 i,
      )

  pub are_starts : AreRequests schemas s starts
  are_starts p r = (
    may_begin p r,
    λ i. by_open p r (is_among p wants && may_start s terms done p) refl
        (subst (λ o. IsWanted o r) (value_is p (is_among p wants && may_start s terms done p) refl) i),
  )

pub are_starts_by :
    (schemas : List Schema) (s : StackState) (terms now : Plan) (done : List (List ℕ)) → HasTerms s terms → now ≡ plan_now s → AreDone s done →
    AreRequests schemas s (starts_by schemas s terms now done)
are_starts_by schemas s terms now done terms_are f are =
    subst (λ n. AreRequests schemas s (starts_by schemas s terms n done)) (sym f) (are_starts schemas s done are terms terms_are)

pub told : (r : Result (List (List ℕ × Wants)) AllocError) (v : List (List ℕ × Wants)) (P : List (List ℕ × Wants) → Type 0) → IfOk r (λ w. w ≡ v) → P v → IfOk r P
told (Ok w) v P e p = subst P (sym e) p
told (Err a) v P e p = tt
