use Rattle.std.proofs.Common.{◌≡◌, ◌∙◌, ◌+◌, ℕ, List, [], ◌∷◌, length, drop, map, ap, sym, arith}
use Rattle.std.proofs.lemmas.List.{drop_more}
use Rattle.cf_desired.specs.declared.frames.Frame as kept_frame
use Rattle.cf_desired.specs.declared.shape.Turn as kept_turn
use Rattle.cf_desired.specs.Given.{Given}
use Rattle.cf_desired.specs.Kept.{frames_in, turn_in}
use Rattle.cf_desired.specs.Turns.{flaw_at_turn, frames_after, given_at, plan_after, plan_run}
use Rattle.cf_desired.proofs.Offering.{drop_all}
use Rattle.cf_desired.proofs.Turning.{plan_so}
use Rattle.cf_desired.proofs.values.plan_by.Goals as goal

pub loop-turn-preserved : goal.loop-turn-preserved
loop-turn-preserved c =
    let items = c.as_slice-turn-items.result.now in
    let i = c.loop-turn.turn-index in
    let left : List kept_turn.Turn = drop (i + 1) items in
    let turn = turn_in c.turn-item.result in
    let source = c.args.source.now in
    let split : drop i items ≡ c.turn-item.result ∷ left = drop_more items i c.turn-item.result c.loop-turn-test.true ∙ ap (λ (t : kept_turn.Turn). t ∷ left) (sym c.turn-item.is) in
    let plan = c.in_ok-pass.ensures.plan in
    let frames = c.in_ok-pass.ensures.frames in
    c.loop-turn.invariant
    ∙ ap (λ (ts : List kept_turn.Turn). plan_run source c.args.seen.now (frames_in c.loop-turn.frames.items) c.loop-turn.plan (map turn_in ts)) split
    ∙ sym (λ j. plan_run source c.args.seen.now (frames j) (plan j) (map turn_in left))

pub returns : goal.returns
returns c =
    let items = c.as_slice-turn-items.result.now in
    let all : c.loop-turn.turn-index ≡ length items = omega arith in
    let none : drop c.loop-turn.turn-index items ≡ [] = ap (λ (k : ℕ). drop k items) all ∙ drop_all items in
    plan_so c.args.source.now c.args.seen.now c.args.shape.now c.loop-turn.plan
    (c.loop-turn.invariant ∙ ap (λ (ts : List kept_turn.Turn). plan_run c.args.source.now c.args.seen.now (frames_in c.loop-turn.frames.items) c.loop-turn.plan (map turn_in ts)) none)
