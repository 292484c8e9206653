use Rattle.std.proofs.Common.{◌≡◌, ◌++◌, drop, filter, map, not}
use Rattle.cf_plan.specs.Accept.{held_as}
use Rattle.cf_prepare.proofs.held.resources_in.Given as goal

abbrev pub invariant-loop-held : goal.invariant-loop-held
invariant-loop-held l =
    l.resources ++ map held_as (filter (λ h. not h.superseded) (drop l.held-index l.helds)) ≡ map held_as (filter (λ h. not h.superseded) l.helds)
