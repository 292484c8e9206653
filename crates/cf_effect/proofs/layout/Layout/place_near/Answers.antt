use Rattle.cf_effect.proofs.Sought.{near_placed}
use Rattle.cf_effect.proofs.layout.Layout.place_near.Goals as goal

pub returns-then-stands_at : goal.returns-then-stands_at
returns-then-stands_at c =
    near_placed c.args.self.now c.args.path.now c.args.near c.stands_at.result c.stands_at.ensures c.if-stands_at.true
