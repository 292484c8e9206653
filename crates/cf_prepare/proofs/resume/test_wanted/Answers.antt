use Rattle.std.proofs.Common.{◌∙◌, ap}
use Rattle.cf_desired.specs.declared.wanted.Plan.{Plan}
use Rattle.cf_prepare.specs.Resuming.{first_stuck}
use Rattle.cf_prepare.proofs.Stuck.{none_stuck, stuck_first}
use Rattle.cf_prepare.proofs.resume.test_wanted.Goals as goal

pub returns-in-Some : goal.returns-in-Some
returns-in-Some c =
    stuck_first c.args.kinds.now c.args.done.now c.args.stack.now.stack c.requires.done c.in-Some.wanted.now c.unknown.result c.requires.forward
    (c.in-Some.ensures ∙ ap (first_stuck c.args.kinds.now c.args.done.now) (c.as_slice.ensures ∙ ap (λ (p : Plan). p.wanted) c.requires.plan)) c.unknown.ensures

pub returns-in-None : goal.returns-in-None
returns-in-None c =
    none_stuck c.args.kinds.now c.args.done.now c.args.stack.now.stack c.requires.done
    (c.in-None.ensures ∙ ap (first_stuck c.args.kinds.now c.args.done.now) (c.as_slice.ensures ∙ ap (λ (p : Plan). p.wanted) c.requires.plan))
