use Rattle.std.proofs.Common.{◌≡◌, ◌∙◌, List, ap}
use Rattle.cf_desired.specs.declared.frames.Frame as kept_frame
use Rattle.cf_desired.specs.Given.{Given}
use Rattle.cf_desired.specs.Kept.{frames_in, offer_in, turn_in}
use Rattle.cf_desired.specs.Turns.{flaw_at_turn, frames_after, given_at, plan_after}
use Rattle.cf_desired.proofs.values.pass.Goals as goal

pub returns-clause-plan : goal.returns-clause-plan
returns-clause-plan c =
    let turn = turn_in c.args.turn.now in
    let source = c.args.source.now in
    let given = c.in_ok-offered.ensures.given ∙ ap (λ (fs : List kept_frame.Frame). given_at source (frames_in fs) turn) c.as_slice.ensures.value in
    let flaw = c.in_ok-offered.ensures.flaw ∙ ap (λ (fs : List kept_frame.Frame). flaw_at_turn source (frames_in fs) turn) c.as_slice.ensures.value in
    c.in_ok-add_turn.ensures ∙ (λ j. plan_after source (given j) (flaw j) (frames_in (c.as_slice-2.ensures.value j)) c.args.plan.now turn)

pub returns-clause-frames : goal.returns-clause-frames
returns-clause-frames c =
    let turn = turn_in c.args.turn.now in
    let source = c.args.source.now in
    let given = c.in_ok-offered.ensures.given ∙ ap (λ (fs : List kept_frame.Frame). given_at source (frames_in fs) turn) c.as_slice.ensures.value in
    c.in_ok-take_turn.ensures ∙ ap (λ (g : Given). frames_after source c.args.seen.now g (frames_in c.args.frames.now.items) turn) given
