use Rattle.std.proofs.Common.{◌≡◌, ◌≤◌, map, drop, length}
use Rattle.cf_eval.specs.Env.{scope_in}
use Rattle.cf_desired.specs.Kept.{kept_stack_in}
use Rattle.cf_desired.specs.Seeing.{by_names, output_seen}
use Rattle.cf_desired.proofs.outputs.output_sights.Given as goal

abbrev pub invariant-loop-at : goal.invariant-loop-at
invariant-loop-at l = (l.at ≤ length l.outputs) × (l.seen ≡ by_names (map (output_seen (kept_stack_in l.stack) l.conds (scope_in l.env)) (drop l.at l.outputs)))

abbrev pub decreases-loop-at : goal.decreases-loop-at
decreases-loop-at l = l.at
