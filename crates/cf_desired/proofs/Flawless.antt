-- A plan without a flaw is one of a clear shape.
use Rattle.std.proofs.Common.{◌≡◌, ℕ, List, [], ◌∷◌, ◌++◌, refl, ap, ◌∙◌, map}
use Rattle.std.specs.Prelude.{flat_map}
use Rattle.cf_tree.specs.declared.source.Source.{Source}
use Rattle.cf_desired.specs.Seeing.{Seen, own_ids, first_sights, nested_sight, outputs_inside}
use Rattle.cf_desired.specs.Met.{flaws_of, Met, a_flaw, flaw_met, met_along, met_inside, met_in, offers_flaw, bind_flaw, outputs_met, scope_after}
use Rattle.cf_desired.specs.declared.flaw.Flaw.{Flaw}
use Rattle.cf_desired.specs.Plan.{flaw_of}
use Rattle.cf_desired.specs.Given.{Given, given_in, settings_for}
use Rattle.cf_eval.specs.Scope.{Scope}
use Rattle.cf_desired.specs.Shape.{given_root}
use Rattle.cf_desired.specs.ShapeStays.{IsClearAlong, IsClearInside, IsClear, FlawlessIsClear}
use Rattle.cf_desired.specs.Stack.{Sights, Scoping, scoping}
use Rattle.cf_desired.specs.Valued.{member_props}
use Rattle.cf_desired.specs.Work.{Member, Nesting, Work, Inside, Body, no_work, resource, nested, shut, barred, halted, opened}
use Rattle.cf_desired.specs.Work as inside

abbrev pub HasNone : List Met → Type 0
HasNone ms = flat_map flaw_of ms ≡ []

none_both : {A : Type 0} (xs ys : List A) → xs ++ ys ≡ [] → (xs ≡ []) × (ys ≡ [])
none_both [] ys h = (refl, h)
none_both (x ∷ xs) ys h = let no : ⊥ = cc in absurd no

pub none_in : (xs ys : List Met) → HasNone (xs ++ ys) → HasNone xs × HasNone ys
none_in [] ys h = (refl, h)
none_in (x ∷ xs) ys h =
    let both = none_both (flaw_of x) (flat_map flaw_of (xs ++ ys)) h in
    let rest = none_in xs ys both.1 in (ap (λ l. l ++ flat_map flaw_of xs) both.0 ∙ rest.0, rest.1)

one_flaw : (f : Flaw) → HasNone (a_flaw f ∷ []) → ⊥
one_flaw f h = let no : ⊥ = cc in no

module _ (source : Source) (seen : Seen) where
  mutual
    along_clear : (path : List ℕ) (over : Scoping) (m : Sights) (w : Work) → HasNone (met_along source seen path over m w) → IsClearAlong w
    along_clear path over m no_work h = tt
    along_clear path over m (resource r w) h = along_clear path over m w (none_in (map (λ f. a_flaw f) (flaws_of (member_props path (over m) r))) _ h).1
    along_clear path over m (nested n i w) h =
        let both = none_in (met_inside source seen path (over m) i) (met_along source seen path over (nested_sight source n (outputs_inside source seen (over m) i) m) w) h in
        (inside_clear path (over m) i both.0, along_clear path over (nested_sight source n (outputs_inside source seen (over m) i) m) w both.1)

    inside_clear : (path : List ℕ) (s : Scope) (i : Inside) → HasNone (met_inside source seen path s i) → IsClearInside i
    inside_clear path s (shut f) h = one_flaw f h
    inside_clear path s (inside.given_by form b) h = body_clear (given_in s form) b (none_in (flaw_met (offers_flaw path s form)) (met_in source seen (given_in s form) b) h).1

    body_clear : (g : Given) (b : Body) → HasNone (met_in source seen g b) → IsClear b
    body_clear g (barred f) h = one_flaw f h
    body_clear g (halted t f) h = one_flaw f (none_in (flaw_met (bind_flaw t g)) (a_flaw f ∷ []) h).1
    body_clear g (opened t conds w) h =
        along_clear t.path (scoping source t conds (settings_for t.template.params g)) (first_sights t conds seen (own_ids w)) w
        (none_in (met_along source seen t.path (scoping source t conds (settings_for t.template.params g)) (first_sights t conds seen (own_ids w)) w)
        (outputs_met t conds (scope_after source seen g t conds w)) (none_in (flaw_met (bind_flaw t g)) _ h).1).0

pub flawless_clear : FlawlessIsClear
flawless_clear source shape seen h = body_clear source seen (given_root source) shape h
