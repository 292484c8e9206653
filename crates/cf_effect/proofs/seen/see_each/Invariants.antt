use Rattle.std.proofs.Common.{◌≡◌, ◌≤◌, ◌++◌, ℕ, List, drop, filter, length, map, not}
use Rattle.cf_desired.specs.Seeing.{SeenAt, by_names}
use Rattle.cf_effect.specs.Begin.{shown_under}
use Rattle.cf_effect.proofs.seen.see_each.Given as goal

abbrev pub invariant-loop-at : goal.invariant-loop-at
invariant-loop-at l =
    (l.at ≤ length l.helds) × ((others : List (List ℕ × SeenAt)) → l.fn.seen ≡ by_names others
    → l.seen ≡ by_names (map shown_under (filter (λ h. not h.superseded) (drop l.at l.helds)) ++ others))

abbrev pub decreases-loop-at : goal.decreases-loop-at
decreases-loop-at l = l.at
