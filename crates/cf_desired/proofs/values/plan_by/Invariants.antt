use Rattle.std.proofs.Common.{◌≡◌, [], drop, map}
use Rattle.cf_desired.specs.Kept.{frames_in, turn_in}
use Rattle.cf_desired.specs.Plan.{no_plan}
use Rattle.cf_desired.specs.Turns.{plan_run}
use Rattle.cf_desired.proofs.values.plan_by.Given as goal

abbrev pub invariant-loop-turn : goal.invariant-loop-turn
invariant-loop-turn l =
    plan_run l.source l.seen [] (no_plan l.shape.templates l.shape.members []) (map turn_in l.shape.turns)
    ≡ plan_run l.source l.seen (frames_in l.frames.items) l.plan (map turn_in (drop l.turn-index l.turn-items))
