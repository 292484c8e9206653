-- In a life in which journal and lanes agree no lane is ahead of an opening: its fence is at most the last epoch.
use Rattle.std.proofs.Common.{◌≡◌, ℕ, zero, suc, ◌≤◌, List, [], ◌∷◌, Some, sym, ◌∙◌, ap, subst, arith}
use Rattle.std.specs.Option.{option_map_or}
use Rattle.cf_tree.specs.Lists.{In}
use Rattle.cf_tree.specs.Lists.In.{here, there}
use Rattle.cf_entry.specs.declared.entry.Entry.{Entry}
use Rattle.cf_handler.specs.declared.fence.FenceAnswer.{FenceAnswer}
use Rattle.cf_handler.specs.declared.fence.FenceAnswer.TheVariants as fence
use Rattle.cf_handler.specs.Fence.{FencedLane, late_by}
use Rattle.cf_handler.specs.Tells.{AreLate, FenceTells, LateEffect}
use Rattle.cf_lane.specs.Lanes.{IsFenced, LaneNow}
use Rattle.cf_agree.specs.Lanes.{no_lane}
use Rattle.cf_plan.specs.Lanes.{Lane, lane_at}
use Rattle.cf_plan.proofs.Listed.{in_map}
use Rattle.cf_book.specs.Entering.{NeverHeld, epoch_over}
use Rattle.cf_book.specs.Fences.{StopsRaising}
use Rattle.cf_book.specs.Record.{world_left}
use Rattle.cf_book.specs.State.{at_home}
use Rattle.cf_book.proofs.Raised.{late_fence}
use Rattle.cf_book.proofs.Raisings.{IsToldAs, told_as}

-- the lane at which raising stops
record Stopped (bs : List LaneNow) (epoch : ℕ) (x : FenceAnswer) : Type 0 where
  before : LaneNow
  after : LaneNow
  there : In before bs
  fenced : IsFenced before after epoch x

stopped : (place : ℕ) (bs cs : List LaneNow) (epoch : ℕ) (x : FenceAnswer) → StopsRaising bs cs place epoch x → Stopped bs epoch x
stopped place [] cs epoch x h = absurd h
stopped place (b ∷ bs) [] epoch x h = absurd h
stopped zero (b ∷ bs) (c ∷ cs) epoch x h = record { before = b; after = c; there = here; fenced = h.0 }
stopped (suc n) (b ∷ bs) (c ∷ cs) epoch x h =
    let s = stopped n bs cs epoch x h.1 in
    record { before = s.before; after = s.after; there = there s.there; fenced = s.fenced }

-- late effects leave the fence
fence_stays : (name : List ℕ) (before : FencedLane) (effects : List LateEffect) (after : FencedLane) → AreLate name before effects after
    → after.fence ≡ before.fence
fence_stays name before [] after h = ap (λ (l : FencedLane). l.fence) h
fence_stays name before (e ∷ es) after h =
    fence_stays name (late_by e.place e.settlement before) es after h.1 ∙ late_fence e.place e.settlement before

pub never_held : (es : List Entry) (lanes after : List LaneNow) (place stands : ℕ) → StopsRaising lanes after place (epoch_over es) (fence.Ahead stands)
    → NeverHeld es lanes
never_held es lanes after place stands stops schemas life was holds =
    let s = stopped place lanes after (epoch_over es) (fence.Ahead stands) stops in
    let (l, told, at) = was.lanes_are (at_home s.before) (in_map at_home s.before lanes s.there) in
    let t : IsToldAs s.before l = told_as s.before l told in
    let tells : FenceTells s.before.name (Some t.state) s.after.told (epoch_over es) (fence.Ahead stands) s.before.count s.after.count =
    subst (λ o. FenceTells s.before.name o s.after.told (epoch_over es) (fence.Ahead stands) s.before.count s.after.count) t.told s.fenced.tells in
    let (mid, (effects, late), lane, is, (ahead, stood, same)) = tells in
    let met : mid.fence ≡ l.state.fence =
    fence_stays s.before.name t.state effects mid late ∙ ap (λ (z : Lane). z.state.fence) (sym t.is) in
    let low : l.state.fence ≤ (world_left es).epoch =
    subst (λ n. n ≤ (world_left es).epoch) (ap (λ o. (option_map_or (λ (z : Lane). z.state) o no_lane).fence) at)
    (subst (λ xs. (option_map_or (λ (z : Lane). z.state) (lane_at l.name life.lanes) no_lane).fence ≤ (world_left xs).epoch) was.entries
    (holds.sound.agrees.tied.ties.fences l.name)) in
    let never : ⊥ = omega (arith, ahead, met, low) in
    absurd never
