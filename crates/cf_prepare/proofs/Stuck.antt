-- The first path, in byte order, that an operation can't do.
use Rattle.std.proofs.Common.{◌≡◌, ◌⊎◌, inl, inr, ℕ, Bool, true, false, ◌&&◌, not, List, [], ◌∷◌, Some, None, Err, refl, ap, sym, ◌∙◌, subst, true≢false, filter, fold}
use Rattle.std.specs.Prelude.{cond}
use Rattle.std.specs.Cmp.{first_so, second_so}
use Rattle.std.proofs.lemmas.Bool.{false_from_ne_true}
use Rattle.cf_tree.specs.Keys.{bytes_lt}
use Rattle.cf_tree.specs.Lists.{In, here, is_among, least_by, there}
use Rattle.cf_desired.specs.declared.wanted.Wanted.{Wanted}
use Rattle.cf_effect.specs.Status.{goes_forward}
use Rattle.cf_effect.specs.World.{StackState}
use Rattle.cf_plan.proofs.Least.{least_in, least_low, least_none}
use Rattle.cf_plan.specs.Done.{AreDone}
use Rattle.cf_plan.specs.Forward.{plan_before}
use Rattle.cf_prepare.specs.Answer.{RefusesAs}
use Rattle.cf_prepare.specs.Refusals.{is_unknown_type}
use Rattle.cf_prepare.specs.Resuming.{IsNotStuck, IsStuck, first_stuck, is_stuck}
use Rattle.cf_prepare.specs.declared.wish.PrepareFault.{PrepareFault}
use Rattle.cf_prepare.specs.declared.wish.PrepareFault.TheVariants as fault

some_none : {A C : Type 0} (a : A) → Some a ≡ None → C
some_none a e = absurd cc

same_some : {A : Type 0} (a b : A) → Some a ≡ Some b → a ≡ b
same_some a b e = cc

in_none : {A C : Type 0} {a : A} → In a [] → C
in_none h = elim h [ ]

in_cons : {A : Type 0} {a b : A} {rest : List A} → In a (b ∷ rest) → (b ≡ a) ⊎ In a rest
in_cons here = inl refl
in_cons (there i) = inr i

-- those that pass a test
kept : (test : Wanted → Bool) (xs : List Wanted) (v : Wanted) → In v xs → test v ≡ true → In v (filter test xs)
kept test [] v i t = in_none i
kept test (x ∷ xs) v i t = elim (in_cons i) [
  | inl k ↦ subst (λ (b : Bool). In v (cond b (x ∷ filter test xs) (filter test xs))) (sym (ap test k ∙ t)) (subst (λ (z : Wanted). In z (x ∷ filter test xs)) k here)
  | inr j ↦ by (test x) (kept test xs v j t)
] where
  by : (b : Bool) → In v (filter test xs) → In v (cond b (x ∷ filter test xs) (filter test xs))
  by true h = there h
  by false h = h

passes : (test : Wanted → Bool) (xs : List Wanted) (v : Wanted) → In v (filter test xs) → In v xs × (test v ≡ true)
passes test [] v i = in_none i
passes test (x ∷ xs) v i = by (test x) refl i (passes test xs v) where
  by : (b : Bool) → test x ≡ b → In v (cond b (x ∷ filter test xs) (filter test xs)) → (In v (filter test xs) → In v xs × (test v ≡ true)) → In v (x ∷ xs) × (test v ≡ true)
  by false e h ih = (there (ih h).0, (ih h).1)
  by true e h ih = elim (in_cons h) [
    | inl k ↦ (subst (λ (z : Wanted). In z (x ∷ xs)) k here, subst (λ (z : Wanted). test z ≡ true) k e)
    | inr j ↦ (there (ih j).0, (ih j).1)
  ]

pub record IsFirst (test : Wanted → Bool) (xs : List Wanted) (a : Wanted) : Type 0 where
  pub member : In a xs
  pub fits : test a ≡ true
  pub least : (v : Wanted) → In v xs → test v ≡ true → bytes_lt v.path a.path ≡ false

is_first : (test : Wanted → Bool) (xs : List Wanted) (a : Wanted) → fold (least_by (λ w. w.path)) None (filter test xs) ≡ Some a → IsFirst test xs a
is_first test xs a e =
    let p = passes test xs a (least_in (λ w. w.path) (filter test xs) a e) in
    record { member = p.0; fits = p.1; least = λ v i t. least_low (λ w. w.path) (filter test xs) a e v (kept test xs v i t) }

-- what is still to be done and has no lane is stuck, in the forward phase
not_so : (b : Bool) → not b ≡ true → b ≡ true → ⊥
not_so true h g = true≢false (sym h)
not_so false h g = true≢false (sym g)

module _ (kinds done : List (List ℕ)) (s : StackState) (are : AreDone s done) where
  stuck_passes : (v : Wanted) → IsStuck kinds s v → is_stuck kinds done v ≡ true
  stuck_passes v h = λ i. h.3 i && not (false_from_ne_true (is_among v.path done) (λ t. h.2 ((are v.path).1 t)) i)

  passes_stuck : (v : Wanted) → goes_forward s.status ≡ true → In v (plan_before s).wanted → is_stuck kinds done v ≡ true → IsStuck kinds s v
  passes_stuck v forward i t = (
    forward,
    i,
    λ d. not_so (is_among v.path done) (second_so (is_unknown_type kinds v) (not (is_among v.path done)) t) ((are v.path).0 d),
    first_so (is_unknown_type kinds v) (not (is_among v.path done)) t,
  )

  pub none_stuck : None ≡ first_stuck kinds done (plan_before s).wanted → (w : Wanted) → IsStuck kinds s w → ⊥
  none_stuck e w h =
      least_none (λ w. w.path) (filter (is_stuck kinds done) (plan_before s).wanted) (sym e) w
      (kept (is_stuck kinds done) (plan_before s).wanted w h.1 (stuck_passes w h))

  pub stuck_first : (w : Wanted) (e : PrepareFault) → goes_forward s.status ≡ true → Some w ≡ first_stuck kinds done (plan_before s).wanted
      → RefusesAs (fault.UnknownType w.path w.kind) e → IsNotStuck {A = Unit {0}} kinds s (Err e)
  stuck_first w fault.NoMemory forward found r = tt
  stuck_first w (fault.Stack g) forward found r = absurd cc
  stuck_first w (fault.Plan g) forward found r = absurd cc
  stuck_first w (fault.UnknownType path name) forward found r =
      let f = is_first (is_stuck kinds done) (plan_before s).wanted w (sym found) in
      let at : path ≡ w.path = cc in
      let kind : name ≡ w.kind = cc in
      (w, passes_stuck w forward f.member f.fits, at, kind, λ v h. subst (λ p. bytes_lt v.path p ≡ false) (sym at) (f.least v h.1 (stuck_passes v h)))
