use Rattle.std.proofs.Common.{option_map}
use Rattle.cf_plan.specs.Failed.{bad_of, inner_found}
use Rattle.cf_plan.proofs.Least.{folded_more}
use Rattle.cf_plan.proofs.bad.first_inner.Goals as goal

pub loop-inner-preserved : goal.loop-inner-preserved
loop-inner-preserved c =
    folded_more (λ b. b.0) (inner_found c.args.done.now) c.args.nested.now c.loop-inner.inner-index c.inner-item.result (option_map bad_of c.args.first)
    (option_map bad_of c.loop-inner.first) (option_map bad_of c.inner_found.result) (option_map bad_of c.lesser_of-first.result)
    c.loop-inner-test.true c.inner-item.is c.loop-inner.invariant c.inner_found.ensures c.lesser_of-first.ensures
