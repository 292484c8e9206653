-- What a handler may answer, and what a call may change (the handler contract of the CloudFormation registry; tokens and limits are this
-- project's own).
use Rattle.std.specs.Prelude.{◌≡◌, ℕ, ◌-◌, ◌^◌, ◌<◌, ◌≤◌, false, List, [], ◌∷◌, ◌++◌, length, Option, Some, None, IsTrue, ◌⊎◌}
use Rattle.cf_tree.specs.Datum.{Data}
use Rattle.cf_tree.specs.Counts.{HasRisen}
use Rattle.cf_tree.specs.Limits.{most_id_bytes, most_attrs_bytes}
use Rattle.cf_tree.specs.SizeOf.{size_of_dict}
use Rattle.cf_tree.specs.declared.request.Request.{Request}
use Rattle.cf_tree.specs.declared.request.Request.TheVariants.{Create, Update, Delete}
use Rattle.cf_tree.specs.declared.code.Code.TheVariants.{NotFound}
use Rattle.cf_tree.specs.declared.request.Answer.{Answer}
use Rattle.cf_tree.specs.declared.request.Answer.TheVariants as answer
use Rattle.cf_handler.specs.declared.settled.Settlement.{Settlement}
use Rattle.cf_handler.specs.declared.settled.Settlement.TheVariants.{Success, Failed}
use Rattle.cf_handler.specs.declared.settled.Settled.{Settled}
use Rattle.cf_handler.specs.Lane.{LaneState, live_of, has_id, is_used, settlement_of}

-- a refusal and a fault come only where the count rose
abbrev pub RoseIfFailed : Answer → ℕ → ℕ → Type 0
RoseIfFailed (answer.Success physical attrs) before after = Unit {0}
RoseIfFailed (answer.Failed code) before after = HasRisen before after
RoseIfFailed answer.Fault before after = HasRisen before after
RoseIfFailed (answer.Stale fence) before after = Unit {0}
RoseIfFailed answer.NoMemory before after = Unit {0}

-- the count never falls, and each refusal and fault has it for its cause
abbrev pub HasCause : ℕ → ℕ → Answer → Type 0
HasCause before after result = (before ≤ after) × RoseIfFailed result before after

-- the attributes are within their limit
abbrev pub AreShort : List (List ℕ × Data) → Type 0
AreShort attrs = size_of_dict attrs ≤ most_attrs_bytes

-- an answer's id and attributes are within their limits
abbrev pub IsShort : Answer → Type 0
IsShort (answer.Success physical attrs) = (length physical ≤ most_id_bytes) × AreShort attrs
IsShort (answer.Failed code) = Unit {0}
IsShort answer.Fault = Unit {0}
IsShort (answer.Stale fence) = Unit {0}
IsShort answer.NoMemory = Unit {0}

-- the id begins with the lane's name and a colon
abbrev pub IsOfLane : List ℕ → List ℕ → Type 0
IsOfLane name id = (rest : List ℕ) × (id ≡ name ++ 58 ∷ rest)

-- what a creation made has an id of the lane
abbrev pub CreatesInLane : List ℕ → Request → Answer → Type 0
CreatesInLane name (Create kind props) (answer.Success physical attrs) = IsOfLane name physical
CreatesInLane name request a = Unit {0}

-- a lane of this type may take the request: a create is of the lane's type
abbrev pub IsKindFor : Request → List ℕ → Type 0
IsKindFor (Create made props) kind = kind ≡ made
IsKindFor (Update id props) kind = Unit {0}
IsKindFor (Delete id) kind = Unit {0}

-- what a new token may be settled with: a created id is of the lane and new, an update and a deletion answer their own id, which was live,
-- attributes are within their limit, and a deletion finds nothing only where nothing is live
abbrev pub MaySettle : List ℕ → LaneState → Request → Settlement → Type 0
MaySettle name lane (Create kind props) (Success id attrs) =
    IsOfLane name id × (length id ≤ most_id_bytes) × (is_used id lane ≡ false) × AreShort attrs
MaySettle name lane (Update id props) (Success physical attrs) = (physical ≡ id) × IsTrue (has_id id (live_of lane)) × AreShort attrs
MaySettle name lane (Delete id) (Success physical attrs) = (physical ≡ id) × IsTrue (has_id id (live_of lane)) × AreShort attrs
MaySettle name lane (Delete id) (Failed NotFound) = has_id id (live_of lane) ≡ false
MaySettle name lane _ (Failed code) = Unit {0}

-- the lane with one more settled call
abbrev pub with_settled : LaneState → Settled → LaneState
with_settled lane s = record { base = lane.base; settled = lane.settled ++ s ∷ [] }

-- the token is settled with the answer: it was so before and nothing changes, or it is new
abbrev pub SettlesBy : Option Settlement → List ℕ → LaneState → LaneState → ℕ → Request → Settlement → Type 0
SettlesBy (Some earlier) name before after token request s = (s ≡ earlier) × (after ≡ before)
SettlesBy None name before after token request s =
    MaySettle name before request s × (after ≡ with_settled before (record { token = token; request = request; settlement = s }))

abbrev pub Settles : List ℕ → LaneState → LaneState → ℕ → Request → Settlement → Type 0
Settles name before after token request s = SettlesBy (settlement_of token before.settled) name before after token request s

-- what a call may do to what a lane holds
abbrev pub LaneMove : List ℕ → LaneState → LaneState → ℕ → Request → Answer → Type 0
LaneMove name before after token request (answer.Success physical attrs) = Settles name before after token request (Success physical attrs)
LaneMove name before after token request (answer.Failed code) = Settles name before after token request (Failed code)
LaneMove name before after token request answer.Fault =
    (after ≡ before) ⊎ ((s : Settlement) × (settlement_of token before.settled ≡ None) × Settles name before after token request s)
LaneMove name before after token request (answer.Stale fence) = after ≡ before
LaneMove name before after token request answer.NoMemory = after ≡ before
