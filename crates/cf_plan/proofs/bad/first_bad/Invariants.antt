use Rattle.std.proofs.Common.{◌≡◌, None, option_map, take}
use Rattle.std.specs.Prelude.{filter_map, fold}
use Rattle.cf_tree.specs.Lists.{least_by}
use Rattle.cf_plan.specs.Failed.{bad_of, flaw_found}
use Rattle.cf_plan.proofs.bad.first_bad.Given as goal

abbrev pub invariant-loop-wanted : goal.invariant-loop-wanted
invariant-loop-wanted l =
    option_map bad_of l.first ≡ fold (least_by (λ b. b.0)) None (filter_map (flaw_found l.before l.now l.done) (take l.wanted-index l.before.wanted))
