use Rattle.std.proofs.Common.{◌≡◌, ◌<◌, None, get_or, length, option_map, subst, ◌∙◌, ap}
use Rattle.cf_desired.specs.declared.wanted.Plan.{Plan}
use Rattle.cf_plan.specs.Failed.{bad_of, flaw_found}
use Rattle.cf_plan.proofs.Least.{folded_more}
use Rattle.cf_plan.proofs.bad.first_bad.Goals as goal

pub loop-wanted-preserved : goal.loop-wanted-preserved
loop-wanted-preserved c =
    let all = c.as_slice-wanted-items.ensures ∙ ap (λ (p : Plan). p.wanted) c.plan.ensures in
    let within = subst (λ ws. c.loop-wanted.wanted-index < length ws) all c.loop-wanted-test.true in
    let item = subst (λ ws. c.wanted-item.result ≡ get_or ws c.loop-wanted.wanted-index c.wanted-item.result) all c.wanted-item.is in
    folded_more (λ b. b.0) (flaw_found c.args.before.now c.args.now.now c.args.done.now) c.args.before.now.wanted c.loop-wanted.wanted-index c.wanted-item.result None
    (option_map bad_of c.loop-wanted.first) (option_map bad_of c.flaw_found.result) (option_map bad_of c.lesser_of-first.result) within item
    c.loop-wanted.invariant c.flaw_found.ensures c.lesser_of-first.ensures
