use Rattle.std.proofs.Common.{◌≡◌, ◌∙◌, ℕ, length, sym, arith}
use Rattle.cf_desired.specs.Kept.{frames_in}
use Rattle.cf_desired.proofs.TurnPlaces.{opened_till, stops_behind, stops_here}
use Rattle.cf_desired.proofs.values.open_till.Goals as goal

pub returns-then-other-place : goal.returns-then-other-place
returns-then-other-place c =
    sym (c.loop-other.invariant
    ∙ stops_here c.args.source.now c.args.seen.now (frames_in c.loop-other.frames.items) c.args.turns.now c.others-other-items.result.now c.loop-other.other-index c.args.place _ c.loop-other-test.true c.if-other-place.true)
    ∙ opened_till c.args.source.now c.args.seen.now (frames_in c.args.frames.now.items) c.args.turns.now c.args.place

pub returns : goal.returns
returns c =
    let all : c.loop-other.other-index ≡ length c.others-other-items.result.now = omega arith in
    sym (c.loop-other.invariant
    ∙ stops_behind c.args.source.now c.args.seen.now (frames_in c.loop-other.frames.items) c.args.turns.now c.others-other-items.result.now c.loop-other.other-index c.args.place all)
    ∙ opened_till c.args.source.now c.args.seen.now (frames_in c.args.frames.now.items) c.args.turns.now c.args.place
