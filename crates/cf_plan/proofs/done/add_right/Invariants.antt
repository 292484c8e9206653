use Rattle.std.proofs.Common.{map, take}
use Rattle.cf_plan.specs.Done.{Joined}
use Rattle.cf_plan.proofs.Fresh.{NoneOf}
use Rattle.cf_plan.proofs.done.add_right.Given as goal

abbrev pub invariant-loop-wanted : goal.invariant-loop-wanted
invariant-loop-wanted l =
    Joined l.before l.now l.held l.fn.done l.done
    × NoneOf l.before l.now l.held l.fn.done l.done (map (λ w. w.path) (take l.wanted-index l.before.wanted))
