use Rattle.std.proofs.Common.{◌≡◌, ◌≤◌, drop, length, map}
use Rattle.std.specs.List.{filter_map}
use Rattle.cf_desired.specs.Seeing.{by_names}
use Rattle.cf_effect.specs.Begin.{shown_under}
use Rattle.cf_effect.specs.Following.{resource_in}
use Rattle.cf_effect.specs.State.{state_of}
use Rattle.cf_effect.proofs.findings.seen_at.Given as goal

abbrev pub invariant-loop-left : goal.invariant-loop-left
invariant-loop-left l =
    (l.left ≤ length l.needs) × (l.seen ≡ by_names (map shown_under (filter_map (resource_in (state_of l.state)) (drop l.left l.needs))))

abbrev pub decreases-loop-left : goal.decreases-loop-left
decreases-loop-left l = l.left
