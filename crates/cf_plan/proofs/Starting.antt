-- The requests that are found are just those that the phase intends.
use Rattle.std.proofs.Common.{◌≡◌, ◌≢◌, ◌⊎◌, inl, inr, ℕ, Bool, true, false, ◌&&◌, ◌||◌, not, List, Option, Some, None, IsTrue, refl, ap, sym, ◌∙◌, subst, if◌then◌else◌, true≢false}
use Rattle.std.specs.Prelude.{Result, Ok, Err, IfOk}
use Rattle.std.specs.declared.alloc.AllocError.{AllocError}
use Rattle.std.specs.Str.{bytes_eq}
use Rattle.std.proofs.lemmas.Option.{none-some, same_Some}
use Rattle.std.proofs.lemmas.Bool.{and_parts, and_from}
use Rattle.cf_tree.specs.Datum.{Data}
use Rattle.cf_tree.specs.declared.request.Request.{Request}
use Rattle.cf_tree.specs.declared.request.Request.TheVariants as request
use Rattle.cf_schema.specs.declared.described.Schema.{Schema}
use Rattle.cf_schema.specs.declared.changed.Difference.{Difference}
use Rattle.cf_schema.specs.declared.changed.Difference.TheVariants as difference
use Rattle.cf_effect.specs.declared.held.Held.{Held}
use Rattle.cf_effect.specs.World.{StackState}
use Rattle.cf_effect.specs.Words.{current_at}
use Rattle.cf_plan.specs.declared.forward.Wants.{Wants}
use Rattle.cf_plan.specs.Forward.{Finding, Bad, Later, Known, difference_to, evaluated_at, is_conditional, was_answered_at}
use Rattle.cf_plan.specs.Follow.{IntendsForward, WantsNew, WantsUpdate, was_not_updatable}
use Rattle.cf_plan.specs.Starts.{AreIntended, create_over, is_replacing, is_same, update_over, wants_by, wants_new, wants_update}
use Rattle.cf_plan.proofs.Listed.{bytes_same, same_bytes}

-- what difference wants a new resource, and what an update
replacing : (d : Difference) → is_replacing d ≡ true → d ≡ difference.Replace
replacing difference.Replace e = refl
replacing difference.Same e = absurd (true≢false (sym e))
replacing difference.Update e = absurd (true≢false (sym e))
replacing difference.MayReplace e = absurd (true≢false (sym e))

same_is : (d : Difference) → is_same d ≡ true → d ≡ difference.Same
same_is difference.Same e = refl
same_is difference.MayReplace e = absurd (true≢false (sym e))
same_is difference.Update e = absurd (true≢false (sym e))
same_is difference.Replace e = absurd (true≢false (sym e))

abbrev New : Difference → Bool → Type 0
New d refused = (d ≡ difference.Replace) ⊎ ((d ≡ difference.MayReplace) × IsTrue refused)

new_is : (d : Difference) (refused : Bool) → (is_replacing d || (is_conditional d && refused)) ≡ true → New d refused
new_is difference.Replace refused e = inl refl
new_is difference.MayReplace refused e = inr (refl, e)
new_is difference.Same refused e = absurd (true≢false (sym e))
new_is difference.Update refused e = absurd (true≢false (sym e))

is_new : (d : Difference) (refused : Bool) → New d refused → (is_replacing d || (is_conditional d && refused)) ≡ true
is_new d refused (inl e) = ap (λ c. is_replacing c || (is_conditional c && refused)) e
is_new d refused (inr (e, t)) = ap (λ c. is_replacing c || (is_conditional c && refused)) e ∙ t

abbrev Other : Difference → Bool → Type 0
Other d unsure = (d ≢ difference.Replace) × ((unsure ≡ true) ⊎ (d ≢ difference.Same))

no_replace : (d : Difference) → not (is_replacing d) ≡ true → d ≢ difference.Replace
no_replace d e k = true≢false (sym e ∙ ap (λ c. not (is_replacing c)) k)

no_same : (d : Difference) → not (is_same d) ≡ true → d ≢ difference.Same
no_same d e k = true≢false (sym e ∙ ap (λ c. not (is_same c)) k)

not_true : (b : Bool) → (b ≡ true → ⊥) → not b ≡ true
not_true true h = absurd (h refl)
not_true false h = refl

other_is : (d : Difference) (unsure : Bool) → (not (is_replacing d) && (unsure || not (is_same d))) ≡ true → Other d unsure
other_is d true e = (no_replace d (and_parts (not (is_replacing d)) true e).0, inl refl)
other_is d false e = let k = and_parts (not (is_replacing d)) (not (is_same d)) e in (no_replace d k.0, inr (no_same d k.1))

is_other : (d : Difference) (unsure : Bool) → Other d unsure → (not (is_replacing d) && (unsure || not (is_same d))) ≡ true
is_other d true (n, o) = and_from (not (is_replacing d)) true (not_true (is_replacing d) (λ e. n (replacing d e))) refl
is_other d false (n, inl e) = absurd (true≢false (sym e))
is_other d false (n, inr m) = and_from (not (is_replacing d)) (not (is_same d)) (not_true (is_replacing d) (λ e. n (replacing d e))) (not_true (is_same d) (λ e. m (same_is d e)))

-- a request is there where a test holds
where_true : {A : Type 0} (b : Bool) (a c : A) → (if b then Some a else None) ≡ Some c → (b ≡ true) × (a ≡ c)
where_true true a c e = (refl, same_Some a c e)
where_true false a c e = absurd (none-some c e)

true_where : {A : Type 0} (b : Bool) (a : A) → b ≡ true → (if b then Some a else None) ≡ Some a
true_where b a e = rw e refl

module _ (schemas : List Schema) (s : StackState) (path : List ℕ) where
  -- a create is found just where it is intended
  created : (k : List ℕ) (ps : List (List ℕ × Data)) (o : Option Held) (r : Request) → create_over schemas s k ps o ≡ Some r → (request.Create k ps ≡ r) × WantsNew schemas s o ps
  created k ps None r e = (same_Some (request.Create k ps) r e, tt)
  created k ps (Some h) r e =
      let w = where_true (wants_new schemas s h ps) (request.Create k ps) r e in (w.1, new_is (difference_to schemas h ps) (was_not_updatable s h) w.0)

  creates : (k : List ℕ) (ps : List (List ℕ × Data)) (o : Option Held) → WantsNew schemas s o ps → create_over schemas s k ps o ≡ Some (request.Create k ps)
  creates k ps None w = refl
  creates k ps (Some h) w = true_where (wants_new schemas s h ps) (request.Create k ps) (is_new (difference_to schemas h ps) (was_not_updatable s h) w)

  abbrev Updates : List ℕ → List (List ℕ × Data) → Option Held → Request → Type 0
  Updates k ps o r =
      (h : Held) × (o ≡ Some h) × (request.Update h.physical ps ≡ r) × (h.kind ≡ k) × WantsUpdate schemas s h ps × (was_answered_at path s ≡ false)

  not_false : (b : Bool) → not b ≡ true → b ≡ false
  not_false true e = absurd (true≢false (sym e))
  not_false false e = refl

  updated : (k : List ℕ) (ps : List (List ℕ × Data)) (o : Option Held) (r : Request) → update_over schemas s path k ps o ≡ Some r → Updates k ps o r
  updated k ps None r e = absurd (none-some r e)
  updated k ps (Some h) r e =
      let w = where_true (bytes_eq h.kind k && (wants_update schemas h ps && not (was_answered_at path s))) (request.Update h.physical ps) r e in
      let a = and_parts (bytes_eq h.kind k) (wants_update schemas h ps && not (was_answered_at path s)) w.0 in
      let b = and_parts (wants_update schemas h ps) (not (was_answered_at path s)) a.1 in
      (h, refl, w.1, bytes_same h.kind k a.0, other_is (difference_to schemas h ps) h.unsure b.0, not_false (was_answered_at path s) b.1)

  updates_over : (ps : List (List ℕ × Data)) (h : Held) (o : Option Held) → o ≡ Some h → WantsUpdate schemas s h ps → was_answered_at path s ≡ false → update_over schemas s path h.kind ps o ≡ Some (request.Update h.physical ps)
  updates_over ps h o e w n =
      ap (update_over schemas s path h.kind ps) e
      ∙ true_where (bytes_eq h.kind h.kind && (wants_update schemas h ps && not (was_answered_at path s))) (request.Update h.physical ps)
      (and_from (bytes_eq h.kind h.kind) (wants_update schemas h ps && not (was_answered_at path s)) (same_bytes h.kind)
      (and_from (wants_update schemas h ps) (not (was_answered_at path s)) (is_other (difference_to schemas h ps) h.unsure w) (rw n refl)))

  -- by what is found at the path
  from_found : (f : Finding) → evaluated_at path s ≡ f → (r : Request) → ((wants_by schemas s path f).create ≡ Some r) ⊎ ((wants_by schemas s path f).update ≡ Some r) → IntendsForward schemas s path r
  from_found (Known k ps) e r (inl c) =
      let w = created k ps (current_at path s.held) r c in subst (IntendsForward schemas s path) w.0 (e, w.1)
  from_found (Known k ps) e r (inr u) =
      let (h, at, same, kind, wants, n) = updated k ps (current_at path s.held) r u in
      subst (IntendsForward schemas s path) same (h, at, refl, e ∙ ap (λ c. Known c ps) (sym kind), wants, n)
  from_found (Bad f) e r (inl c) = absurd (none-some r c)
  from_found (Bad f) e r (inr u) = absurd (none-some r u)
  from_found Later e r (inl c) = absurd (none-some r c)
  from_found Later e r (inr u) = absurd (none-some r u)

  to_found : (r : Request) → IntendsForward schemas s path r → ((wants_by schemas s path (evaluated_at path s)).create ≡ Some r) ⊎ ((wants_by schemas s path (evaluated_at path s)).update ≡ Some r)
  to_found (request.Create k ps) (e, w) = inl (ap (λ f. (wants_by schemas s path f).create) e ∙ creates k ps (current_at path s.held) w)
  to_found (request.Update physical ps) (h, at, same, e, w, n) =
      inr (ap (λ f. (wants_by schemas s path f).update) e ∙ updates_over ps h (current_at path s.held) at w n ∙ ap (λ q. Some (request.Update q ps)) (sym same))
  to_found (request.Delete physical) i = absurd i

  pub intended : (f : Finding) → evaluated_at path s ≡ f → AreIntended schemas s path (wants_by schemas s path f)
  intended f e r = (λ i. subst (λ g. ((wants_by schemas s path g).create ≡ Some r) ⊎ ((wants_by schemas s path g).update ≡ Some r)) e (to_found r i), from_found f e r)

pub told : (r : Result Wants AllocError) (v : Wants) (P : Wants → Type 0) → IfOk r (λ w. w ≡ v) → P v → IfOk r P
told (Ok w) v P e p = subst P (sym e) p
told (Err a) v P e p = tt
