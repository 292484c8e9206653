-- The paths of a plan are those of its shape, and where it has no flaw but those of evaluations the root's parameters are bound.
use Rattle.std.proofs.Common.{◌≡◌, ℕ, List, [], ◌∷◌, ◌++◌, false, not, Option, Some, None, map, filter, option_map, refl, sym, ap, ◌∙◌}
use Rattle.std.specs.Prelude.{cond, flat_map}
use Rattle.cf_tree.specs.declared.source.Source.{Source}
use Rattle.cf_desired.specs.Given.{Given}
use Rattle.cf_desired.specs.Met.{Met, bind_flaw_in, flaw_met, met_in}
use Rattle.cf_desired.specs.Plan.{flaw_of, plan_by, plan_of, wanted_of}
use Rattle.cf_desired.specs.Seeing.{Seen}
use Rattle.cf_desired.specs.Shape.{given_root, shape_of}
use Rattle.cf_desired.specs.Stays.{is_of_evaluation, other_flaws}
use Rattle.cf_desired.specs.Valued.{resources_in, valued_in}
use Rattle.cf_desired.specs.Work.{Member, Body, Shape, barred, halted, opened}
use Rattle.cf_desired.specs.declared.flaw.Flaw.{Flaw}
use Rattle.cf_desired.specs.declared.flaw.Flaw.TheVariants as flaw
use Rattle.cf_desired.proofs.Termed.{Valued, member_of, members_in}

paths_in : (rs : List Valued) → map (λ w. w.path) (map wanted_of rs) ≡ map (λ m. m.path) (map member_of rs)
paths_in [] = refl
paths_in (r ∷ rs) = ap (λ (ps : List (List ℕ)). r.0.path ∷ ps) (paths_in rs)

-- the paths of a plan by a shape are those of the shape, whatever is seen
pub plan_paths : (source : Source) (shape : Shape) (seen : Seen) → map (λ w. w.path) (plan_by source shape seen).wanted ≡ map (λ m. m.path) (resources_in shape)
plan_paths source shape seen =
    paths_in (valued_in source seen (given_root source) shape)
    ∙ ap (λ (ms : List Member). map (λ m. m.path) ms) (members_in source seen (given_root source) shape)

-- a plan whose flaws are all of evaluations has bound the parameters of the root
first_bound :
    {A : Type 0} (f : A → Flaw) → ((x : A) → is_of_evaluation (f x) ≡ false) → (o : Option A) (rest : List Met)
    → filter (λ g. not (is_of_evaluation g)) (flat_map flaw_of (flaw_met (option_map f o) ++ rest)) ≡ [] → option_map f o ≡ None
first_bound f other None rest h = refl
first_bound f other (Some x) rest h =
    let more : List Flaw = filter (λ g. not (is_of_evaluation g)) (flat_map flaw_of rest) in
    let some : f x ∷ more ≡ [] = sym (ap (λ b. cond (not b) (f x ∷ more) more) (other x)) ∙ h in
    let no : ⊥ = cc in absurd no

flaws_bound :
    (source : Source) (seen : Seen) (g : Given) (b : Body) → filter (λ f. not (is_of_evaluation f)) (flat_map flaw_of (met_in source seen g b)) ≡ []
    → bind_flaw_in g b ≡ None
flaws_bound source seen g (barred f) h = refl
flaws_bound source seen g (halted t f) h = first_bound (flaw.Bind t.path) (λ x. refl) _ _ h
flaws_bound source seen g (opened t conds w) h = first_bound (flaw.Bind t.path) (λ x. refl) _ _ h

pub root_bound : (source : Source) (seen : Seen) → other_flaws (plan_of source seen) ≡ [] → bind_flaw_in (given_root source) (shape_of source seen) ≡ None
root_bound source seen none = flaws_bound source seen (given_root source) (shape_of source seen) none
