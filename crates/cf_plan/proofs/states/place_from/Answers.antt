use Rattle.cf_effect.proofs.Sorted.{near_found}
use Rattle.cf_plan.proofs.states.place_from.Goals as goal

pub returns-then-stands_at : goal.returns-then-stands_at
returns-then-stands_at c =
    near_found c.args.stack.now.stack c.args.layout.now c.args.near c.args.path.now c.stands_at.result c.stands_at.ensures c.if-stands_at.true c.requires
