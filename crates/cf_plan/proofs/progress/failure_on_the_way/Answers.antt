use Rattle.std.proofs.Common.{◌≡◌, refl, sym, subst, ◌∙◌}
use Rattle.std.specs.Prelude.{IfOk}
use Rattle.cf_plan.specs.Causes.{IsFailureOf, failure_of_call, or_path}
use Rattle.cf_plan.specs.Failed.{least}
use Rattle.cf_plan.specs.Forward.{path_of_token}
use Rattle.cf_plan.specs.PathStates.{ready_flaws}
use Rattle.cf_plan.specs.declared.cause.Failure.TheVariants.{Nothing}
use Rattle.cf_plan.proofs.Causing.{call_failed, told}
use Rattle.cf_plan.proofs.FailingCalls.{failing_called}
use Rattle.cf_plan.proofs.StatesOpen.{failed_by_path}
use Rattle.cf_plan.proofs.progress.failure_on_the_way.Goals as goal

pub failure_of_call-requires : goal.failure_of_call-requires
failure_of_call-requires c =
    failing_called c.args.schemas.now c.args.stack.now.stack (c.in-Some.token, c.in-Some.reason) (sym c.first_failing.ensures ∙ c.in-Some.is)

pub returns-in-Some : goal.returns-in-Some
returns-in-Some c =
    told c.failure_of_call.result (failure_of_call (path_of_token c.in-Some.token c.args.stack.now.stack) c.in-Some.reason)
    (IsFailureOf c.args.schemas.now c.args.name.now c.args.world.now.world c.args.stack.now.stack) c.failure_of_call.ensures
    (call_failed c.args.schemas.now c.args.name.now c.args.world.now.world c.args.stack.now.stack (c.in-Some.token, c.in-Some.reason)
    (path_of_token c.in-Some.token c.args.stack.now.stack) (sym c.first_failing.ensures ∙ c.in-Some.is) refl)

pub returns-in-None : goal.returns-in-None
returns-in-None c =
    told c.failure_of_path.result (or_path (least (ready_flaws c.args.done.now c.args.states.now)) Nothing)
    (IsFailureOf c.args.schemas.now c.args.name.now c.args.world.now.world c.args.stack.now.stack)
    (subst (λ o. IfOk c.failure_of_path.result (λ v. v ≡ or_path o Nothing)) c.first_ready_flaw.ensures c.failure_of_path.ensures)
    (failed_by_path c.args.schemas.now c.args.name.now c.args.world.now.world c.args.stack.now.stack c.args.states.now c.args.done.now c.requires.states
    c.requires.done c.requires.enough c.requires.nested c.requires.to_do (sym c.first_failing.ensures ∙ c.in-None.is))
