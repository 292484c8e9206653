-- Openings, fences and calls that act late (the handler contract of the CloudFormation registry lets a handler work on after its caller is
-- gone; epochs, fences and tokens are this project's own).
use Rattle.std.specs.Prelude.{◌≡◌, ℕ, ◌<◌, ◌≤◌, List, [], ◌∷◌, ◌++◌, slice_get, remove, find, Option, Some, None, ◌⊎◌, ◌==◌}
use Rattle.std.specs.Str.{bytes_eq}
use Rattle.cf_tree.specs.declared.request.Request.{Request}
use Rattle.cf_tree.specs.declared.request.Answer.{Answer}
use Rattle.cf_tree.specs.declared.request.Answer.TheVariants as answer
use Rattle.cf_handler.specs.declared.settled.Settlement.{Settlement}
use Rattle.cf_handler.specs.declared.settled.Settled.{Settled}
use Rattle.cf_handler.specs.declared.fence.FenceAnswer.{FenceAnswer}
use Rattle.cf_handler.specs.declared.fence.FenceAnswer.TheVariants.{Raised, Ahead, Fault}
use Rattle.cf_handler.specs.Lane.{LaneState, Live, live_of, settlement_of}
use Rattle.cf_handler.specs.Move.{MaySettle, LaneMove, with_settled}
use Rattle.cf_tree.specs.Counts.{HasRisen}

-- a call that broke off and may act later: the opening that made it, its token, and what was asked
pub record Flying : Type 0 where
  pub epoch : ℕ
  pub token : ℕ
  pub request : Request

-- a lane between openings: what it holds, what may act later, and the least epoch from which it takes calls
pub record FencedLane : Type 0 where
  pub state : LaneState
  pub flying : List Flying
  pub fence : ℕ

-- the live resource of an id
abbrev pub live_at : List ℕ → FencedLane → Option Live
live_at id lane = find (λ r. bytes_eq id r.id) (live_of lane.state)

-- the lane with one more call that may act later
abbrev pub with_flying : FencedLane → Flying → FencedLane
with_flying lane f = record lane { flying = lane.flying ++ f ∷ [] }

-- the call does to what the lane holds what a call may do
abbrev pub MovesState : List ℕ → FencedLane → FencedLane → ℕ → Request → Answer → Type 0
MovesState name before after token request a =
    (state : LaneState) × LaneMove name before.state state token request a × (after ≡ record before { state = state })

-- it may act later: its token isn't settled
abbrev pub MayActLater : FencedLane → FencedLane → ℕ → ℕ → Request → Type 0
MayActLater before after epoch token request =
    (settlement_of token before.state.settled ≡ None)
    × (after ≡ with_flying before (record { epoch = epoch; token = token; request = request }))

-- what a call of an opening may do to a lane: an answer and a fault come only where the fence lets it through, and after a fault it may
-- also act later; a call before the fence is stale, which tells the fence and changes nothing
abbrev pub CallMove : List ℕ → FencedLane → FencedLane → ℕ → ℕ → Request → Answer → Type 0
CallMove name before after epoch token request answer.Fault =
    (before.fence ≤ epoch) × (MovesState name before after token request answer.Fault ⊎ MayActLater before after epoch token request)
CallMove name before after epoch token request (answer.Stale fence) = (epoch < before.fence) × (fence ≡ before.fence) × (after ≡ before)
CallMove name before after epoch token request answer.NoMemory = after ≡ before
CallMove name before after epoch token request a = (before.fence ≤ epoch) × MovesState name before after token request a

-- what a call leaves on its lane: nothing, its token settled, or itself, to act later
pub data Left : Type 0 where
  Untouched : Left
  SettledBy : Settlement → Left
  FlyingOn : Left

-- the lane after it
abbrev pub left_by : Left → ℕ → ℕ → Request → FencedLane → FencedLane
left_by Untouched epoch token request lane = lane
left_by (SettledBy s) epoch token request lane =
    record lane { state = with_settled lane.state (record { token = token; request = request; settlement = s }) }
left_by FlyingOn epoch token request lane = with_flying lane (record { epoch = epoch; token = token; request = request })

-- the lane after the late effect of the call that flies at this place
abbrev pub settled_late : ℕ → Settlement → FencedLane → Option Flying → FencedLane
settled_late place s lane None = lane
settled_late place s lane (Some f) =
    record lane {
      state = with_settled lane.state (record { token = f.token; request = f.request; settlement = s });
      flying = remove lane.flying place;
    }

abbrev pub late_by : ℕ → Settlement → FencedLane → FencedLane
late_by place s lane = settled_late place s lane (slice_get lane.flying place)

-- a late effect: a call that no fence has passed, and whose token isn't settled, becomes settled and flies no more
pub record LateMove (name : List ℕ) (before after : FencedLane) (place : ℕ) (s : Settlement) : Type 0 where
  pub flying : Flying
  pub stands : slice_get before.flying place ≡ Some flying
  pub passes : before.fence ≤ flying.epoch
  pub is_new : settlement_of flying.token before.state.settled ≡ None
  pub fits : MaySettle name before.state flying.request s
  pub leaves : after ≡ late_by place s before

-- the lane with its fence at this epoch
abbrev pub raised_to : FencedLane → ℕ → FencedLane
raised_to lane epoch = record lane { fence = epoch }

-- raising the fence: it becomes the epoch where it is below it, else the lane is ahead; after a fault it is the old one or the epoch
abbrev pub FenceMove : FencedLane → FencedLane → ℕ → FenceAnswer → ℕ → ℕ → Type 0
FenceMove before after epoch Raised count counted = (before.fence < epoch) × (after ≡ raised_to before epoch)
FenceMove before after epoch (Ahead fence) count counted = (epoch ≤ before.fence) × (fence ≡ before.fence) × (after ≡ before)
FenceMove before after epoch Fault count counted =
    HasRisen count counted × (before.fence < epoch) × ((after ≡ before) ⊎ (after ≡ raised_to before epoch))
