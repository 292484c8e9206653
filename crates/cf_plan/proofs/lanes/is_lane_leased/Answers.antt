use Rattle.std.proofs.Common.{length, sym, ◌∙◌}
use Rattle.std.proofs.lemmas.Bool.{eqb-true}
use Rattle.std.proofs.lemmas.List.{nil_from_length}
use Rattle.cf_plan.proofs.AtHome.{none_leased}
use Rattle.cf_plan.proofs.lanes.is_lane_leased.Goals as goal

pub returns-then-is_empty : goal.returns-then-is_empty
returns-then-is_empty c =
    none_leased c.args.world.now.world c.args.lane.now c.args.out.now
    (nil_from_length c.args.out.now (eqb-true (length c.args.out.now) 0 (sym c.is_empty.ensures ∙ c.if-is_empty.true)))
