-- Why there is no change set, by why there is no plan.
use Rattle.std.proofs.Common.{◌≡◌, ◌∙◌, ℕ, List, Bool, Option, Some, None, option_map, refl, sym, ap}
use Rattle.std.specs.Prelude.{Err}
use Rattle.std.proofs.lemmas.Option.{none-some}
use Rattle.cf_tree.specs.Lists.{first_in}
use Rattle.cf_desired.specs.Desired.{Desires, desired_by, fault_of}
use Rattle.cf_desired.proofs.FirstFlaw.{is_first}
use Rattle.cf_desired.specs.declared.flaw.Flaw.{Flaw}
use Rattle.cf_desired.specs.declared.refusal.DesiredFault.{DesiredFault}
use Rattle.cf_desired.specs.declared.refusal.DesiredFault.TheVariants as unwanted
use Rattle.cf_desired.specs.declared.wanted.Plan.{Plan}
use Rattle.cf_change.specs.declared.set.ChangeFault.TheVariants as fault
use Rattle.cf_change.specs.Changes.{Changed, Changes, refusal_by, refusal_of, refused}

pub refused_plan : (f : DesiredFault) → (f ≡ unwanted.NoMemory → ⊥) → fault.Plan f ≡ refused f
refused_plan (unwanted.Bind at f) n = refl
refused_plan (unwanted.Eval f) n = refl
refused_plan (unwanted.Graph at f) n = refl
refused_plan (unwanted.Shape path) n = refl
refused_plan (unwanted.TemplateMissing name) n = refl
refused_plan (unwanted.TooDeep path) n = refl
refused_plan (unwanted.TooMany count) n = refl
refused_plan (unwanted.DynamicCondition path name) n = refl
refused_plan (unwanted.DynamicTemplate path) n = refl
refused_plan unwanted.NoMemory n = absurd (n refl)

module _ (c : Changes) where
  by_flaw : (f : DesiredFault) (o : Option Flaw) (least : Option (List ℕ)) (same : Bool) → option_map fault_of o ≡ Some f → refusal_by o least same ≡ Some (fault.Plan f)
  by_flaw f None least same e = absurd (none-some f e)
  by_flaw f (Some x) least same e = ap (option_map (λ g. fault.Plan g)) e

  flawed : (f : DesiredFault) → option_map fault_of (first_in c.flaws) ≡ Some f → refusal_of c ≡ Some (fault.Plan f)
  flawed f e = by_flaw f (first_in c.flaws) _ _ e

  first_flaw : (fs : List Flaw) → fs ≡ c.flaws → option_map fault_of (first_in c.flaws) ≡ option_map fault_of (first_in fs)
  first_flaw fs e = ap (λ (xs : List Flaw). option_map fault_of (first_in xs)) (sym e)

  pub changed_not : (f : DesiredFault) (p : Plan) → p.flaws ≡ c.flaws → Desires (desired_by p (first_in p.flaws)) (Err f) → Changed c (Err (refused f))
  changed_not (unwanted.Bind at f) p s h = flawed (unwanted.Bind at f) (first_flaw p.flaws s ∙ is_first p _ (first_in p.flaws) h)
  changed_not (unwanted.Eval f) p s h = flawed (unwanted.Eval f) (first_flaw p.flaws s ∙ is_first p _ (first_in p.flaws) h)
  changed_not (unwanted.Graph at f) p s h = flawed (unwanted.Graph at f) (first_flaw p.flaws s ∙ is_first p _ (first_in p.flaws) h)
  changed_not (unwanted.Shape path) p s h = flawed (unwanted.Shape path) (first_flaw p.flaws s ∙ is_first p _ (first_in p.flaws) h)
  changed_not (unwanted.TemplateMissing name) p s h = flawed (unwanted.TemplateMissing name) (first_flaw p.flaws s ∙ is_first p _ (first_in p.flaws) h)
  changed_not (unwanted.TooDeep path) p s h = flawed (unwanted.TooDeep path) (first_flaw p.flaws s ∙ is_first p _ (first_in p.flaws) h)
  changed_not (unwanted.TooMany count) p s h = flawed (unwanted.TooMany count) (first_flaw p.flaws s ∙ is_first p _ (first_in p.flaws) h)
  changed_not (unwanted.DynamicCondition path name) p s h = flawed (unwanted.DynamicCondition path name) (first_flaw p.flaws s ∙ is_first p _ (first_in p.flaws) h)
  changed_not (unwanted.DynamicTemplate path) p s h = flawed (unwanted.DynamicTemplate path) (first_flaw p.flaws s ∙ is_first p _ (first_in p.flaws) h)
  changed_not unwanted.NoMemory p s h = tt
