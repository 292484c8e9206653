use Rattle.cf_plan.specs.PathStates.{starts_from_all}
use Rattle.cf_plan.specs.Starts.{AreOpen}
use Rattle.cf_plan.proofs.StatesOpen.{open_by, starts_told}
use Rattle.cf_plan.proofs.progress.open_starts.Goals as goal

pub returns : goal.returns
returns c =
    starts_told c.starts_from_all.result (starts_from_all c.args.schemas.now c.args.stack.now.stack c.args.done.now c.args.states.now)
    (AreOpen c.args.schemas.now c.args.stack.now.stack) c.starts_from_all.ensures
    (open_by c.args.schemas.now c.args.stack.now.stack c.args.states.now c.args.done.now c.requires.states c.requires.done c.requires.enough)
