use Rattle.std.proofs.Common.{◌≡◌, None, subst}
use Rattle.cf_next.specs.Forward.{IsOverviewIn}
use Rattle.cf_next.proofs.stage.offer_by.Goals as goal

pub unreachable-requires : goal.unreachable-requires
unreachable-requires c =
    let there : c.args.overview.now ≡ None = cc in
    subst (IsOverviewIn c.args.schemas.now c.args.stack.now.stack) there c.requires.overview c.requires.forward
