-- A round in which nothing joins is the last.
use Rattle.std.proofs.Common.{arith, subst}
use Rattle.cf_plan.specs.Done.{CanJoin, none}
use Rattle.cf_plan.proofs.Fresh.{joined_less, joined_on, joined_same}
use Rattle.cf_plan.proofs.done.add_all_right.Goals as goal

pub loop-done-init : goal.loop-done-init
loop-done-init c = none

pub returns-then-len-count-clause-joined : goal.returns-then-len-count-clause-joined
returns-then-len-count-clause-joined c =
    joined_on c.args.before.now c.args.now.now c.args.held.now c.args.done.now c.loop-done.done c.add_right.new.done c.loop-done.invariant
    c.in_ok-add_right.ensures.joined

pub returns-then-len-count-clause-all : goal.returns-then-len-count-clause-all
returns-then-len-count-clause-all c p n =
    let same =
    joined_same c.args.before.now c.args.now.now c.args.held.now c.loop-done.done c.add_right.new.done c.in_ok-add_right.ensures.joined
    (omega (arith, c.if-len-count.true, c.len.ensures, c.len-count.ensures)) in
    c.in_ok-add_right.ensures.all same p (subst (λ d. CanJoin c.args.before.now c.args.now.now c.args.held.now d p) same n)

pub loop-done-smaller : goal.loop-done-smaller
loop-done-smaller c =
    joined_less c.args.before.now c.args.now.now c.args.held.now c.loop-done.done c.add_right.new.done c.in_ok-add_right.ensures.joined
    (λ e. c.if-len-count.false (omega (arith, e, c.len.ensures, c.len-count.ensures)))

pub loop-done-preserved : goal.loop-done-preserved
loop-done-preserved c =
    joined_on c.args.before.now c.args.now.now c.args.held.now c.args.done.now c.loop-done.done c.add_right.new.done c.loop-done.invariant
    c.in_ok-add_right.ensures.joined
