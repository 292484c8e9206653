use Rattle.std.proofs.Common.{◌≡◌, ◌==◌, ◌&&◌, ◌++◌, filter, map, take}
use Rattle.cf_plan.specs.Done.{is_good_update}
use Rattle.cf_plan.proofs.done.push_calls.Given as goal

abbrev pub invariant-loop-call : goal.invariant-loop-call
invariant-loop-call l = l.paths ≡ l.fn.paths ++ map (λ c. c.path) (filter (λ c. c.number == l.number && is_good_update c) (take l.call-index l.calls))
