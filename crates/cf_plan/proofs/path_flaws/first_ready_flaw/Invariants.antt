use Rattle.std.proofs.Common.{◌≡◌, None, fold, option_map, take}
use Rattle.std.specs.Prelude.{filter_map}
use Rattle.cf_tree.specs.Lists.{least_by}
use Rattle.cf_plan.specs.Failed.{bad_of}
use Rattle.cf_plan.specs.PathStates.{ready_flaw}
use Rattle.cf_plan.proofs.path_flaws.first_ready_flaw.Given as goal

abbrev pub invariant-loop-state : goal.invariant-loop-state
invariant-loop-state l = option_map bad_of l.first ≡ fold (least_by (λ b. b.0)) None (filter_map (ready_flaw l.done) (take l.state-index l.states))
