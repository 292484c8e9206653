-- What a plan has at a path is what the shape and the values at that path say (this project's own law).
use Rattle.std.specs.Prelude.{◌≡◌, ℕ, List, Option, Some, None, find, map}
use Rattle.std.specs.Str.{bytes_eq}
use Rattle.cf_tree.specs.declared.source.Source.{Source}
use Rattle.cf_desired.specs.Plan.{fault_at, member_at, nesting_at, plan_by, props_at, wanted_of}
use Rattle.cf_desired.specs.Seeing.{Seen}
use Rattle.cf_desired.specs.Valued.{nestings_in, resources_in}
use Rattle.cf_desired.specs.Whole.{wanted_at}
use Rattle.cf_desired.specs.Work.{Member, Nesting, Shape}
use Rattle.cf_desired.specs.declared.flaw.Flaw.{Flaw}
use Rattle.cf_desired.specs.declared.wanted.Evaluated.{Evaluated}
use Rattle.cf_desired.specs.declared.wanted.Inner.{Inner}
use Rattle.cf_desired.specs.declared.wanted.Plan.{Plan}
use Rattle.cf_desired.specs.declared.wanted.Wanted.{Wanted}

-- a resource with its properties, and a nested stack with the fault of its parameters, as a plan has them
abbrev pub wanted_from : Option Member → Option Evaluated → Option Wanted
wanted_from (Some m) (Some v) = Some (wanted_of (m, v))
wanted_from _ _ = None

abbrev pub inner_from : Option Nesting → Option (Option Flaw) → Option Inner
inner_from (Some n) (Some f) = Some (record { path = n.path; needs = n.needs; fault = f })
inner_from _ _ = None

abbrev pub inner_at : List ℕ → Plan → Option Inner
inner_at path p = find (λ n. bytes_eq path n.path) p.nested

-- the resources and nested stacks of a plan are those of its shape, in the same order, and each by its path
pub record IsPlanOf (source : Source) (shape : Shape) (seen : Seen) (p : Plan) : Type 0 where
  pub paths : map (λ w. w.path) p.wanted ≡ map (λ m. m.path) (resources_in shape)
  pub stacks : map (λ n. n.path) p.nested ≡ map (λ n. n.path) (nestings_in shape)
  pub wanted : (path : List ℕ) → wanted_at path p ≡ wanted_from (member_at shape path) (props_at source shape seen path)
  pub nested : (path : List ℕ) → inner_at path p ≡ inner_from (nesting_at shape path) (fault_at source shape seen path)

abbrev pub PlanByPaths : Type 0
PlanByPaths = (source : Source) (shape : Shape) (seen : Seen) → IsPlanOf source shape seen (plan_by source shape seen)
