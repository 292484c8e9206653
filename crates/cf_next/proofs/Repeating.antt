-- The open calls that a walk leaves are the repeats of the stage.
use Rattle.std.proofs.Common.{◌≡◌, ◌↔◌, inl, inr, ℕ, Bool, true, false, ◌&&◌, not, nat_lt, List, [], ◌∷◌, cond, Result, Ok, Err, filter, refl, ap, sym, ◌∙◌, true≢false, subst}
use Rattle.std.specs.Prelude.{IfOk}
use Rattle.cf_tree.specs.Lists.{is_among}
use Rattle.cf_schema.specs.declared.described.Schema.{Schema}
use Rattle.cf_effect.specs.declared.held.Pending.{Pending}
use Rattle.cf_effect.specs.Calls.{doubts_of}
use Rattle.cf_effect.specs.Operation.{named_paths}
use Rattle.cf_effect.specs.Status.{Stage, Back, BackClean, Clean, Forward, Gone}
use Rattle.cf_effect.specs.World.{StackState, World}
use Rattle.cf_plan.specs.Follow.{MayRepeat, is_in_flight, may_repeat}
use Rattle.cf_tree.specs.Lists.{there}
use Rattle.cf_tree.specs.Lists.{here}
use Rattle.cf_tree.specs.Lists.{In}
use Rattle.cf_plan.proofs.Listed.{in_cons, in_none}
use Rattle.cf_next.specs.Offer.{AreRepeats}
use Rattle.cf_next.specs.Repeats.{AreRepeatsBut, HasNotFailed, can_repeat, retained_in}

-- what a filter leaves
pub in_left : {A : Type 0} (test : A → Bool) (xs : List A) (a : A) → In a (filter test xs) ↔ (In a xs × (test a ≡ true))
in_left test [] a = (λ i. absurd (in_none i), λ w. absurd (in_none w.0))
in_left {A} test (x ∷ xs) a = by (test x) refl (in_left test xs a)
  where
    back : (b : Bool) → test x ≡ b → (In a (filter test xs) ↔ (In a xs × (test a ≡ true))) → In a (x ∷ xs) → test a ≡ true
        → In a (cond b (x ∷ filter test xs) (filter test xs))
    back true e rest i t = elim (in_cons i) [ inl s ↦ subst (λ (y : A). In y (x ∷ filter test xs)) s here | inr j ↦ there (rest.1 (j, t)) ]
    back false e rest i t = elim (in_cons i) [ inl s ↦ absurd (true≢false (sym t ∙ ap test (sym s) ∙ e)) | inr j ↦ rest.1 (j, t) ]

    to : (b : Bool) → test x ≡ b → (In a (filter test xs) ↔ (In a xs × (test a ≡ true)))
        → In a (cond b (x ∷ filter test xs) (filter test xs)) → In a (x ∷ xs) × (test a ≡ true)
    to true e rest i = elim (in_cons i) [ inl s ↦ subst (λ (y : A). In y (x ∷ xs) × (test y ≡ true)) s (here, e) | inr j ↦ (there (rest.0 j).0, (rest.0 j).1) ]
    to false e rest i = (there (rest.0 i).0, (rest.0 i).1)

    by : (b : Bool) → test x ≡ b → (In a (filter test xs) ↔ (In a xs × (test a ≡ true)))
        → In a (cond b (x ∷ filter test xs) (filter test xs)) ↔ (In a (x ∷ xs) × (test a ≡ true))
    by b e rest = (to b e rest, λ w. back b e rest w.0 w.1)

pub and_true : (b : Bool) → b ≡ (b && true)
and_true true = refl
and_true false = refl

and_later : (a b c : Bool) → (a && (b && c)) ≡ ((a && b) && c)
and_later true b c = refl
and_later false b c = refl

-- what each stage asks of an open call
pub repeated : (stage : Stage) (out : List ℕ) (s : StackState) (p : Pending)
    → may_repeat stage out s p ≡ can_repeat (retained_in stage s) out s p
repeated Forward out s p = and_true (may_repeat Back out s p)
repeated Clean out s p = and_true (may_repeat Back out s p)
repeated Back out s p = and_true (may_repeat Back out s p)
repeated BackClean out s p = and_true (may_repeat Back out s p)
repeated Gone out s p = and_later (not (is_in_flight out p.token)) (nat_lt (doubts_of p.token s) 3) (not (is_among p.path (named_paths s)))

module _ (schemas : List Schema) (name : List ℕ) (x : World) (out : List ℕ) (s : StackState) where
  open_again : (stage : Stage) → HasNotFailed schemas name x s stage → (p : Pending)
      → MayRepeat schemas name x out s stage p ↔ (In p s.tokens × (may_repeat stage out s p ≡ true))
  open_again Forward going p = (λ w. (w.1, w.2), λ w. (going, w.0, w.1))
  open_again Clean going p = (λ w. w, λ w. w)
  open_again Back going p = (λ w. w, λ w. w)
  open_again BackClean going p = (λ w. w, λ w. w)
  open_again Gone going p = (λ w. w, λ w. w)

  pub are_repeats : (stage : Stage) (retained : List (List ℕ)) → retained_in stage s ≡ retained → HasNotFailed schemas name x s stage
      → AreRepeats schemas name x out s stage (filter (can_repeat retained out s) s.tokens)
  are_repeats stage retained e going p =
      let may = open_again stage going p in
      let left = in_left (can_repeat retained out s) s.tokens p in
      let same = repeated stage out s p ∙ ap (λ (ps : List (List ℕ)). can_repeat ps out s p) e in
      (λ m. left.1 ((may.0 m).0, sym same ∙ (may.0 m).1), λ i. may.1 ((left.0 i).0, same ∙ (left.0 i).1))

-- the same of a list that was made, or not
pub told_repeats : {E : Type 0} (retained : List (List ℕ)) (out : List ℕ) (s : StackState) (tokens : List Pending) (made : Result (List Pending) E) → tokens ≡ s.tokens
    → IfOk made (λ repeats. repeats ≡ filter (can_repeat retained out s) tokens)
    → IfOk made (λ repeats. AreRepeatsBut retained out s repeats)
told_repeats retained out s tokens (Ok repeats) same e = λ schemas name x stage r going.
    subst (AreRepeats schemas name x out s stage) (sym (e ∙ ap (filter (can_repeat retained out s)) same)) (are_repeats schemas name x out s stage retained r going)
told_repeats retained out s tokens (Err fault) same e = e
