use Rattle.std.proofs.Common.{◌≡◌, drop}
use Rattle.cf_desired.specs.Kept.{frames_in}
use Rattle.cf_desired.specs.TurnPlaces.{others_from}
use Rattle.cf_desired.proofs.TurnPlaces.{run_till}
use Rattle.cf_desired.proofs.values.open_till.Given as goal

abbrev pub invariant-loop-other : goal.invariant-loop-other
invariant-loop-other l =
    run_till l.source l.seen (frames_in l.fn.frames.items) l.turns (others_from 0 l.turns) l.place
    ≡ run_till l.source l.seen (frames_in l.frames.items) l.turns (drop l.other-index l.other-items) l.place
