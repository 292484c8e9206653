-- What an answer to what a source wants says of its plan.
use Rattle.std.proofs.Common.{◌≡◌, refl, List, [], ◌∷◌, ap, sym}
use Rattle.std.specs.Prelude.{Option, Some, None, option_map, Result, Ok, Err}
use Rattle.std.proofs.lemmas.Option.{none-some}
use Rattle.cf_tree.specs.Lists.{first_in}
use Rattle.cf_desired.specs.declared.flaw.Flaw.{Flaw}
use Rattle.cf_desired.specs.declared.refusal.DesiredFault.{DesiredFault}
use Rattle.cf_desired.specs.declared.wanted.Plan.{Plan}
use Rattle.cf_desired.specs.Desired.{desired_by, fault_of}

abbrev plan_or : Plan → Result Plan DesiredFault → Plan
plan_or p (Ok d) = d
plan_or p (Err f) = p

abbrev fault_in : Result Plan DesiredFault → Option DesiredFault
fault_in (Ok d) = None
fault_in (Err f) = Some f

-- a plan is given where there is no flaw, and it is the plan
pub is_flawless : (p d : Plan) (fs : List Flaw) → desired_by p (first_in fs) ≡ Ok d → (fs ≡ []) × (d ≡ p)
is_flawless p d [] e = (refl, ap (plan_or p) (sym e))
is_flawless p d (f ∷ fs) e = absurd (none-some (fault_of f) (sym (ap fault_in e)))

-- a fault is given where there is a flaw, and it is the first
pub is_first : (p : Plan) (f : DesiredFault) (o : Option Flaw) → desired_by p o ≡ Err f → option_map fault_of o ≡ Some f
is_first p f None e = absurd (none-some f (ap fault_in e))
is_first p f (Some x) e = ap fault_in e
