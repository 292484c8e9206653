-- Each path that is passed joins, or is not fresh.
use Rattle.std.proofs.Common.{◌≡◌, ◌<◌, length, get_or, subst, ◌∙◌, ap}
use Rattle.cf_desired.specs.declared.wanted.Plan.{Plan}
use Rattle.cf_plan.specs.Done.{none}
use Rattle.cf_plan.proofs.Fresh.{round}
use Rattle.cf_plan.proofs.Listed.{in_none}
use Rattle.cf_plan.proofs.done.add_right.Goals as goal

pub loop-wanted-init : goal.loop-wanted-init
loop-wanted-init c = (none, λ same q i f. absurd (in_none i))

pub loop-wanted-preserved : goal.loop-wanted-preserved
loop-wanted-preserved c =
    let all = c.as_slice-wanted-items.ensures ∙ ap (λ (p : Plan). p.wanted) c.plan.ensures in
    let within = subst (λ ws. c.loop-wanted.wanted-index < length ws) all c.loop-wanted-test.true in
    let item = subst (λ ws. c.wanted-item.result ≡ get_or ws c.loop-wanted.wanted-index c.wanted-item.result) all c.wanted-item.is in
    round c.args.before.now c.args.now.now c.args.held.now c.args.done.now c.loop-wanted.done c.add_one.new.done c.loop-wanted.wanted-index
    c.wanted-item.result within item c.loop-wanted.invariant c.in_ok-add_one.ensures
