use Rattle.std.proofs.Common.{◌↔◌, Bool, IsTrue, subst, sym}
use Rattle.cf_handler.specs.Move.{IsOfLane}
use Rattle.cf_plan.proofs.OfLane.{of_lane_is}
use Rattle.cf_plan.proofs.lanes.is_of_lane.Goals as goal

pub returns-clause-decides : goal.returns-clause-decides
returns-clause-decides c =
    subst (λ (b : Bool). IsTrue b ↔ IsOfLane c.args.lane.now c.args.physical.now) (sym c.names_lane.ensures) (of_lane_is c.args.lane.now c.args.physical.now)
