use Rattle.std.proofs.Common.{◌≡◌, filter, map, not, take}
use Rattle.cf_plan.proofs.done.current_paths.Given as goal

abbrev pub invariant-loop-held : goal.invariant-loop-held
invariant-loop-held l = l.paths ≡ map (λ h. h.path) (filter (λ h. not h.superseded) (take l.held-index l.helds))
