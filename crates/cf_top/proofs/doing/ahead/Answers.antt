use Rattle.std.proofs.Common.{inl, inr, refl, ap, ◌∙◌}
use Rattle.cf_face.specs.declared.exit.Exit.TheVariants.{LaneAhead}
use Rattle.cf_top.proofs.doing.ahead.Goals as goal

pub lane_name-requires : goal.lane_name-requires
lane_name-requires g c = c.requires

pub returns-in-Ok : goal.returns-in-Ok
returns-in-Ok g c =
    inr (c.lane_name.ensures.0, c.lane_name.ensures.1, ap (λ n. LaneAhead n c.args.fence c.args.epoch) (c.in-Ok.ensures ∙ c.lane_name.ensures.2))

pub returns-in-Err : goal.returns-in-Err
returns-in-Err g c = inl refl
