use Rattle.std.proofs.Common.{◌≡◌, [], map, take}
use Rattle.std.specs.Prelude.{fold}
use Rattle.cf_plan.specs.Starts.{with_start}
use Rattle.cf_plan.proofs.starts.starts_by.Given as goal

abbrev pub invariant-loop-wanted : goal.invariant-loop-wanted
invariant-loop-wanted l =
    l.starts ≡ fold (with_start l.schemas l.stack.stack l.before l.now l.done) [] (map (λ w. w.path) (take l.wanted-index l.before.wanted))
