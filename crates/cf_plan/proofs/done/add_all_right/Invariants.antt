use Rattle.cf_plan.specs.Done.{Joined}
use Rattle.cf_plan.proofs.Fresh.{left_of}
use Rattle.cf_plan.proofs.done.add_all_right.Given as goal

abbrev pub invariant-loop-done : goal.invariant-loop-done
invariant-loop-done l = Joined l.before l.now l.held l.fn.done l.done

abbrev pub decreases-loop-done : goal.decreases-loop-done
decreases-loop-done l = left_of l.before l.now l.held l.done
