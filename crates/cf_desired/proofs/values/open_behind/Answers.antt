use Rattle.std.proofs.Common.{◌≡◌, ◌∙◌, List, ap}
use Rattle.cf_desired.specs.declared.frames.Frame as kept_frame
use Rattle.cf_desired.specs.Given.{Given}
use Rattle.cf_desired.specs.Kept.{frames_in, turn_in}
use Rattle.cf_desired.specs.Turns.{frames_after, given_at}
use Rattle.cf_desired.proofs.values.open_behind.Goals as goal

pub returns : goal.returns
returns c =
    let turn = turn_in c.args.turn.now in
    let source = c.args.source.now in
    let given = c.in_ok-offered.ensures.given ∙ ap (λ (fs : List kept_frame.Frame). given_at source (frames_in fs) turn) c.as_slice.ensures.value in
    c.in_ok-take_turn.ensures ∙ ap (λ (g : Given). frames_after source c.args.seen.now g (frames_in c.args.frames.now.items) turn) given
