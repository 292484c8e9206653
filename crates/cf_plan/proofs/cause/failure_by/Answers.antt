use Rattle.std.proofs.Common.{◌∙◌, None, Some, sym}
use Rattle.cf_plan.specs.Forward.{path_of_token}
use Rattle.cf_plan.specs.Causes.{IsFailureOf, failure_of_call, plan_failure}
use Rattle.cf_plan.proofs.Causing.{tells_by, told}
use Rattle.cf_plan.proofs.FailingCalls.{failing_called}
use Rattle.cf_plan.proofs.cause.failure_by.Goals as goal

pub failure_of_call-requires : goal.failure_of_call-requires
failure_of_call-requires c =
    failing_called c.args.schemas.now c.args.stack.now.stack (c.in-Some.token, c.in-Some.reason) (sym c.first_failing.ensures ∙ c.in-Some.is)

pub returns-in-Some : goal.returns-in-Some
returns-in-Some c =
    told c.failure_of_call.result (failure_of_call (path_of_token c.in-Some.token c.args.stack.now.stack) c.in-Some.reason)
    (IsFailureOf c.args.schemas.now c.args.name.now c.args.world.now.world c.args.stack.now.stack) c.failure_of_call.ensures
    (tells_by c.args.schemas.now c.args.name.now c.args.world.now.world c.args.stack.now.stack c.args.terms.now c.args.now.now c.args.done.now c.requires.terms
    c.requires.now c.requires.done (Some (c.in-Some.token, c.in-Some.reason)) (sym c.first_failing.ensures ∙ c.in-Some.is))

pub returns-in-None : goal.returns-in-None
returns-in-None c =
    told c.plan_failure.result (plan_failure c.args.name.now c.args.world.now.world c.args.terms.now c.args.now.now c.args.done.now)
    (IsFailureOf c.args.schemas.now c.args.name.now c.args.world.now.world c.args.stack.now.stack) c.plan_failure.ensures
    (tells_by c.args.schemas.now c.args.name.now c.args.world.now.world c.args.stack.now.stack c.args.terms.now c.args.now.now c.args.done.now c.requires.terms
    c.requires.now c.requires.done None (sym c.first_failing.ensures ∙ c.in-None.is))
