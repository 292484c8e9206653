use Rattle.std.proofs.Common.{◌≡◌, ◌≤◌, drop, filter, length, map}
use Rattle.cf_desired.specs.Seeing.{by_names}
use Rattle.cf_prepare.specs.Exported.{is_exported_by}
use Rattle.cf_prepare.proofs.exported.listed.Given as goal

abbrev pub invariant-loop-at : goal.invariant-loop-at
invariant-loop-at l =
    (l.at ≤ length l.exports) × (l.pairs ≡ by_names (map (λ e. (e.name, e.value)) (filter (is_exported_by l.own l.name) (drop l.at l.exports))))

abbrev pub decreases-loop-at : goal.decreases-loop-at
decreases-loop-at l = l.at
