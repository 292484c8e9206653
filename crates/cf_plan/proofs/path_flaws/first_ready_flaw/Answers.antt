use Rattle.std.proofs.Common.{None, option_map}
use Rattle.cf_plan.specs.Failed.{bad_of}
use Rattle.cf_plan.specs.PathStates.{ready_flaw}
use Rattle.cf_plan.proofs.Least.{folded_more}
use Rattle.cf_plan.proofs.path_flaws.first_ready_flaw.Goals as goal

pub loop-state-preserved : goal.loop-state-preserved
loop-state-preserved c =
    folded_more (λ b. b.0) (ready_flaw c.args.done.now) c.args.states.now c.loop-state.state-index c.state-item.result None
    (option_map bad_of c.loop-state.first) (option_map bad_of c.ready_flaw.result) (option_map bad_of c.lesser_of-first.result)
    c.loop-state-test.true c.state-item.is c.loop-state.invariant c.ready_flaw.ensures c.lesser_of-first.ensures
