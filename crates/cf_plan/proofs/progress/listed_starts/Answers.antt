use Rattle.std.proofs.Common.{subst, sym}
use Rattle.std.proofs.lemmas.Result.{IfOk-weaker}
use Rattle.cf_plan.specs.Starts.{AreOpen}
use Rattle.cf_plan.proofs.StartsListed.{are_open}
use Rattle.cf_plan.proofs.progress.listed_starts.Goals as goal

pub returns : goal.returns
returns c =
    IfOk-weaker c.listed.result _ _
    (λ l w. subst (AreOpen c.args.schemas.now c.args.stack.now.stack) (sym w.0) (are_open c.args.schemas.now c.args.stack.now.stack _ w.1 c.requires)) c.listed.ensures
