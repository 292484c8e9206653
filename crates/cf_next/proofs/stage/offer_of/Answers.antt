use Rattle.std.proofs.Common.{refl, sym, ◌∙◌}
use Rattle.cf_entry.specs.declared.status.Status.TheVariants as status
use Rattle.cf_effect.specs.Status.{Clean, Back, BackClean, Gone}
use Rattle.cf_next.proofs.Offered.{offered}
use Rattle.cf_next.proofs.stage.offer_of.Goals as goal

pub returns-in-UpdateCompleteCleanupInProgress : goal.returns-in-UpdateCompleteCleanupInProgress
returns-in-UpdateCompleteCleanupInProgress c =
    offered c.args.schemas.now c.args.name.now c.args.world.now.world c.args.out.now c.args.stack.now.stack status.UpdateCompleteCleanupInProgress Clean
    c.offer_clean.result (sym c.status.ensures ∙ c.in-UpdateCompleteCleanupInProgress.is) refl c.offer_clean.ensures

pub returns-in-RollbackInProgress : goal.returns-in-RollbackInProgress
returns-in-RollbackInProgress c =
    offered c.args.schemas.now c.args.name.now c.args.world.now.world c.args.out.now c.args.stack.now.stack status.RollbackInProgress Back
    c.offer_rolling_back.result (sym c.status.ensures ∙ c.in-RollbackInProgress.is) refl c.offer_rolling_back.ensures

pub returns-in-UpdateRollbackInProgress : goal.returns-in-UpdateRollbackInProgress
returns-in-UpdateRollbackInProgress c =
    offered c.args.schemas.now c.args.name.now c.args.world.now.world c.args.out.now c.args.stack.now.stack status.UpdateRollbackInProgress Back
    c.offer_restoring.result (sym c.status.ensures ∙ c.in-UpdateRollbackInProgress.is) refl c.offer_restoring.ensures

pub returns-in-UpdateRollbackCompleteCleanupInProgress : goal.returns-in-UpdateRollbackCompleteCleanupInProgress
returns-in-UpdateRollbackCompleteCleanupInProgress c =
    offered c.args.schemas.now c.args.name.now c.args.world.now.world c.args.out.now c.args.stack.now.stack status.UpdateRollbackCompleteCleanupInProgress BackClean
    c.offer_back_clean.result (sym c.status.ensures ∙ c.in-UpdateRollbackCompleteCleanupInProgress.is) refl c.offer_back_clean.ensures

pub returns-in-DeleteInProgress : goal.returns-in-DeleteInProgress
returns-in-DeleteInProgress c =
    offered c.args.schemas.now c.args.name.now c.args.world.now.world c.args.out.now c.args.stack.now.stack status.DeleteInProgress Gone
    c.offer_gone.result (sym c.status.ensures ∙ c.in-DeleteInProgress.is) refl c.offer_gone.ensures
