use Rattle.std.proofs.Common.{◌≡◌, ◌<◌, get_or, length, subst, ◌∙◌, ap}
use Rattle.cf_desired.specs.declared.wanted.Plan.{Plan}
use Rattle.cf_plan.proofs.Begins.{one_more}
use Rattle.cf_plan.proofs.starts.starts_by.Goals as goal

pub loop-wanted-preserved : goal.loop-wanted-preserved
loop-wanted-preserved c =
    let all = c.as_slice-wanted-items.ensures ∙ ap (λ (p : Plan). p.wanted) c.plan.ensures in
    let within = subst (λ ws. c.loop-wanted.wanted-index < length ws) all c.loop-wanted-test.true in
    let item = subst (λ ws. c.wanted-item.result ≡ get_or ws c.loop-wanted.wanted-index c.wanted-item.result) all c.wanted-item.is in
    one_more c.args.schemas.now c.args.stack.now.stack c.args.before.now c.args.now.now c.args.done.now c.args.before.now.wanted c.loop-wanted.wanted-index
    c.wanted-item.result c.loop-wanted.starts c.add_start.new.starts within item c.loop-wanted.invariant c.in_ok-add_start.ensures
