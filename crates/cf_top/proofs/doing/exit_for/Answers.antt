use Rattle.std.proofs.Common.{sym, subst}
use Rattle.cf_top.specs.Performed.{ExitsFor}
use Rattle.cf_workers.specs.Ordering.{IsPlaced}
use Rattle.cf_top.proofs.doing.exit_for.Goals as goal

pub ahead-requires : goal.ahead-requires
ahead-requires g c = subst (IsPlaced c.args.book.now.lanes) c.in-LaneAhead.is c.requires

pub returns-in-LaneAhead : goal.returns-in-LaneAhead
returns-in-LaneAhead g c = subst (λ f. ExitsFor c.args.book.now.lanes f c.ahead.result) (sym c.in-LaneAhead.is) c.ahead.ensures
