use Rattle.std.proofs.Common.{subst}
use Rattle.cf_next.specs.Opens.{IsOpenCall}
use Rattle.cf_next.proofs.Opening.{open_taken}
use Rattle.cf_next.proofs.opens.open_going.Goals as goal

pub returns-then-branch : goal.returns-then-branch
returns-then-branch c =
    open_taken c.args.out.now c.args.world.now.world c.args.stack.now.stack c.args.schemas.now c.args.name.now c.in-Some.call c.requires.forward
    (subst (IsOpenCall c.args.out.now c.args.world.now.world c.args.stack.now.stack c.args.schemas.now) c.in-Some.is c.in_ok-call.ensures)
    (c.in_ok-goes_on-in-Some.ensures.0 c.if-branch.true)
