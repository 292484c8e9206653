use Rattle.cf_prepare.proofs.Working.{updates_so}
use Rattle.cf_effect.specs.World.{known_stack}
use Rattle.cf_prepare.proofs.preparing.test_update.Goals as goal

pub returns-else-creates_from : goal.returns-else-creates_from
returns-else-creates_from c =
    λ d e. updates_so (known_stack c.args.name.now c.args.world.now.world) c.status_of.result c.creates_from.result d c.test_changing.result c.status_of.ensures c.creates_from.ensures
    c.if-creates_from.false (c.test_changing.ensures d e)
