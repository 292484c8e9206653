use Rattle.std.proofs.Common.{◌≡◌, option_map, take}
use Rattle.std.specs.Prelude.{filter_map, fold}
use Rattle.cf_tree.specs.Lists.{least_by}
use Rattle.cf_plan.specs.Failed.{bad_of, inner_found}
use Rattle.cf_plan.proofs.bad.first_inner.Given as goal

abbrev pub invariant-loop-inner : goal.invariant-loop-inner
invariant-loop-inner l =
    option_map bad_of l.first ≡ fold (least_by (λ b. b.0)) (option_map bad_of l.fn.first) (filter_map (inner_found l.done) (take l.inner-index l.nested))
