-- A look at a resource (the handler contract of the CloudFormation registry: read handlers; epochs and fences are this project's own).
use Rattle.std.specs.Prelude.{◌≡◌, ℕ, ◌<◌, ◌≤◌, List, Some, None}
use Rattle.cf_tree.specs.Counts.{HasRisen}
use Rattle.cf_tree.specs.declared.code.Code.TheVariants.{NotFound}
use Rattle.cf_tree.specs.declared.request.Look.{Look}
use Rattle.cf_tree.specs.declared.request.Look.TheVariants.{Found, Failed, Fault, Stale, NoMemory}
use Rattle.cf_handler.specs.Lane.{Live}
use Rattle.cf_handler.specs.Move.{AreShort}
use Rattle.cf_handler.specs.Fence.{FencedLane, live_at}

-- a fault comes only where the count rose, and so does a refusal, but for the answer that nothing is there
abbrev pub RoseIfBlind : Look → ℕ → ℕ → Type 0
RoseIfBlind (Found props attrs) before after = Unit {0}
RoseIfBlind (Failed NotFound) before after = Unit {0}
RoseIfBlind (Failed code) before after = HasRisen before after
RoseIfBlind Fault before after = HasRisen before after
RoseIfBlind (Stale fence) before after = Unit {0}
RoseIfBlind NoMemory before after = Unit {0}

-- the count never falls, and each refusal and fault of a look has it for its cause
abbrev pub HasLookCause : ℕ → ℕ → Look → Type 0
HasLookCause before after look = (before ≤ after) × RoseIfBlind look before after

-- the attributes that it shows are within their limit
abbrev pub ShowsShort : Look → Type 0
ShowsShort (Found props attrs) = AreShort attrs
ShowsShort look = Unit {0}

-- what a look may show of a lane: a live resource as it is, that none of this id is live, or, before the fence alone, the fence; want of
-- memory may come at any time
abbrev pub IsSeen : FencedLane → ℕ → List ℕ → Look → Type 0
IsSeen lane epoch id (Found props attrs) =
    (lane.fence ≤ epoch) × (r : Live) × (live_at id lane ≡ Some r) × (props ≡ r.props) × (attrs ≡ r.attrs)
IsSeen lane epoch id (Failed NotFound) = (lane.fence ≤ epoch) × (live_at id lane ≡ None)
IsSeen lane epoch id (Stale fence) = (epoch < lane.fence) × (fence ≡ lane.fence)
IsSeen lane epoch id NoMemory = Unit {0}
IsSeen lane epoch id look = lane.fence ≤ epoch
