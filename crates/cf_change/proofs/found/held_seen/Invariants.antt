use Rattle.std.proofs.Common.{◌≡◌, ◌≤◌, map, drop, length}
use Rattle.cf_change.specs.Changes.{held_at}
use Rattle.cf_desired.specs.Seeing.{by_names}
use Rattle.cf_change.proofs.found.held_seen.Given as goal

abbrev pub invariant-loop-at : goal.invariant-loop-at
invariant-loop-at l = (l.at ≤ length l.held) × (l.seen ≡ by_names (map held_at (drop l.at l.held)))

abbrev pub decreases-loop-at : goal.decreases-loop-at
decreases-loop-at l = l.at
