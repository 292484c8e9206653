-- What a handler that tells its lane says of each call: late effects may come first, then the call does what it may; of one that does not
-- tell, nothing is said (this project's own).
use Rattle.std.specs.Prelude.{◌≡◌, ℕ, ◌<◌, ◌≤◌, List, [], ◌∷◌, Option, Some, None}
use Rattle.cf_tree.specs.Counts.{HasRisen}
use Rattle.cf_tree.specs.declared.request.Request.{Request}
use Rattle.cf_tree.specs.declared.request.Answer.{Answer}
use Rattle.cf_tree.specs.declared.request.Answer.TheVariants as answer
use Rattle.cf_tree.specs.declared.request.Look.{Look}
use Rattle.cf_handler.specs.declared.settled.Settlement.{Settlement}
use Rattle.cf_handler.specs.declared.fence.FenceAnswer.{FenceAnswer}
use Rattle.cf_handler.specs.declared.fence.FenceAnswer.TheVariants.{Raised, Ahead, Fault}
use Rattle.cf_handler.specs.Fence.{FencedLane, CallMove, FenceMove, LateMove, late_by}
use Rattle.cf_handler.specs.Look.{IsSeen}

-- a late effect: the place of its call among those that may act later, and what the call is settled with
pub record LateEffect : Type 0 where
  pub place : ℕ
  pub settlement : Settlement

-- these late effects, one after another, make the lane this one
abbrev pub AreLate : List ℕ → FencedLane → List LateEffect → FencedLane → Type 0
AreLate name before [] after = after ≡ before
AreLate name before (e ∷ es) after =
    LateMove name before (late_by e.place e.settlement before) e.place e.settlement
    × AreLate name (late_by e.place e.settlement before) es after

-- some late effects do, or none
abbrev pub Lates : List ℕ → FencedLane → FencedLane → Type 0
Lates name before after = (effects : List LateEffect) × AreLate name before effects after

-- a call
abbrev pub CallTells : List ℕ → Option FencedLane → Option FencedLane → ℕ → ℕ → Request → Answer → Type 0
CallTells name None after epoch token request result = after ≡ None
CallTells name (Some before) after epoch token request result =
    (mid : FencedLane) × Lates name before mid × (lane : FencedLane) × (after ≡ Some lane)
    × CallMove name mid lane epoch token request result

-- a stale answer comes just where the epoch is below the fence, which it tells; want of memory may come instead
abbrev pub IsStaleWhereBelow : Option FencedLane → ℕ → Answer → Type 0
IsStaleWhereBelow None epoch result = Unit {0}
IsStaleWhereBelow (Some lane) epoch (answer.Stale fence) = (epoch < lane.fence) × (fence ≡ lane.fence)
IsStaleWhereBelow (Some lane) epoch answer.NoMemory = Unit {0}
IsStaleWhereBelow (Some lane) epoch result = lane.fence ≤ epoch

-- the raising of a fence: the count never falls, and a fault has it for its cause
abbrev pub RoseIfBroken : FenceAnswer → ℕ → ℕ → Type 0
RoseIfBroken Raised before after = Unit {0}
RoseIfBroken (Ahead fence) before after = Unit {0}
RoseIfBroken Fault before after = HasRisen before after

abbrev pub HasFenceCause : ℕ → ℕ → FenceAnswer → Type 0
HasFenceCause before after result = (before ≤ after) × RoseIfBroken result before after

abbrev pub FenceTells : List ℕ → Option FencedLane → Option FencedLane → ℕ → FenceAnswer → ℕ → ℕ → Type 0
FenceTells name None after epoch result count counted = after ≡ None
FenceTells name (Some before) after epoch result count counted =
    (mid : FencedLane) × Lates name before mid × (lane : FencedLane) × (after ≡ Some lane)
    × FenceMove mid lane epoch result count counted

-- a look: it changes nothing
abbrev pub LookTells : List ℕ → Option FencedLane → Option FencedLane → ℕ → List ℕ → Look → Type 0
LookTells name None after epoch id result = after ≡ None
LookTells name (Some before) after epoch id result =
    (lane : FencedLane) × Lates name before lane × (after ≡ Some lane) × IsSeen lane epoch id result
