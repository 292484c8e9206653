-- The plan over what was held before, and the plan over the resources of now, have the paths and the needs of the operation's template.
use Rattle.std.proofs.Common.{◌≡◌, ℕ, List, [], Option, Some, None, Result, Ok, Err, IfOk, map, option_map, refl, sym, ap, subst, ◌∙◌}
use Rattle.cf_tree.specs.declared.source.Source.{Source}
use Rattle.cf_desired.specs.Plan.{plan_by}
use Rattle.cf_desired.specs.Kept.{IsShape}
use Rattle.cf_desired.specs.Seeing.{Seen}
use Rattle.cf_desired.specs.Work.{Body}
use Rattle.cf_desired.specs.declared.shape.Shape as kept
use Rattle.cf_desired.specs.Shape.{shape_of}
use Rattle.cf_desired.specs.declared.shape.Terms.{Terms}
use Rattle.cf_desired.specs.Whole.{wanted_at}
use Rattle.cf_desired.specs.declared.wanted.Plan.{Plan}
use Rattle.cf_desired.specs.declared.wanted.Wanted.{Wanted}
use Rattle.cf_desired.proofs.Termed.{terms_by, wanted_terms}
use Rattle.cf_effect.specs.declared.held.Held.{Held}
use Rattle.cf_effect.specs.Begin.{seen_in}
use Rattle.cf_effect.specs.Outset.{Outset}
use Rattle.cf_effect.specs.End.{seen_now}
use Rattle.cf_effect.specs.Reply.{terms_of, wanted_in}
use Rattle.cf_effect.specs.World.{StackState}
use Rattle.cf_plan.specs.Done.{HasTerms, planned_needs}
use Rattle.cf_plan.specs.Forward.{plan_before, plan_in, plan_now}
use Rattle.cf_plan.proofs.OneShape.{plan_paths}

needs_in : Option Terms → List (List ℕ)
needs_in None = []
needs_in (Some t) = t.needs

needs_of : (o : Option Wanted) → (terms_of o).needs ≡ needs_in (option_map terms_by o)
unfolding needs_in
needs_of None = refl
needs_of (Some w) = refl

paths_are : (going : Option Source) (before seen : Seen) → map (λ w. w.path) (plan_in going before seen).wanted ≡ map (λ w. w.path) (plan_in going before before).wanted
paths_are None before seen = refl
paths_are (Some source) before seen = plan_paths source (shape_of source before) seen ∙ sym (plan_paths source (shape_of source before) before)

needs_are : (going : Option Source) (before seen : Seen) (path : List ℕ) → planned_needs path (plan_in going before seen) ≡ (terms_of (wanted_in going before path)).needs
needs_are None before seen path = refl
needs_are (Some source) before seen path =
    needs_of (wanted_at path (plan_by source (shape_of source before) seen))
    ∙ ap needs_in (wanted_terms source seen (shape_of source before) path ∙ sym (wanted_terms source before (shape_of source before) path))
    ∙ sym (needs_of (wanted_at path (plan_by source (shape_of source before) before)))

-- what is seen makes no difference to them
pub over_before : (s : StackState) (p : Plan) → p ≡ plan_before s → HasTerms s p
over_before s p e =
    subst (HasTerms s) (sym e)
    (record { paths = refl; needs = needs_are s.going (seen_in s.before) (seen_in s.before) })

pub over_now : (s : StackState) (p : Plan) → p ≡ plan_now s → HasTerms s p
over_now s p e =
    subst (HasTerms s) (sym e)
    (record { paths = paths_are s.going (seen_in s.before) (seen_now s); needs = needs_are s.going (seen_in s.before) (seen_now s) })

-- a plan by the shape that an operation set out with
pub planned_by :
    {E : Type 0} (r : Result Plan E) (o : Outset) (shape : kept.Shape) (source : Source) (going : Option Source) (before : List Held) (seen : Seen) → source ≡ o.source
    → IsShape shape (shape_of o.source (seen_in o.before)) → Some o.source ≡ going → o.before ≡ before
    → IfOk r (λ p. (b : Body) → IsShape shape b → p ≡ plan_by source b seen) → IfOk r (λ p. p ≡ plan_in going (seen_in before) seen)
planned_by (Err e) o shape source going before seen same has goes was h = tt
planned_by (Ok p) o shape source going before seen same has goes was h =
    h (shape_of o.source (seen_in o.before)) has ∙ ap (λ (s : Source). plan_by s (shape_of o.source (seen_in o.before)) seen) same
    ∙ ap (λ (bs : List Held). plan_by o.source (shape_of o.source (seen_in bs)) seen) was ∙ ap (λ (g : Option Source). plan_in g (seen_in before) seen) goes
