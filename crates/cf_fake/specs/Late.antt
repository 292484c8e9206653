-- Calls of the handler in memory that act late: which are due before a call, and what they leave (this project's own).
use Rattle.std.specs.Prelude.{◌≡◌, ℕ, ◌+◌, ◌-◌, ◌^◌, min, Bool, ◌&&◌, not, is_some, nat_le, if◌then◌else◌, List, [], ◌∷◌, ◌++◌, Option, Some, None, map, remove, Result, Ok, Err}
use Rattle.std.specs.declared.alloc.AllocError.{AllocError}
use Rattle.cf_tree.specs.declared.request.Request.{Request}
use Rattle.cf_tree.specs.declared.request.Answer.{Answer}
use Rattle.cf_schema.specs.declared.described.Schema.{Schema}
use Rattle.cf_handler.specs.declared.settled.Settlement.{Settlement}
use Rattle.cf_handler.specs.declared.settled.Settled.{Settled}
use Rattle.cf_handler.specs.Lane.{settlement_of}
use Rattle.cf_handler.specs.Fence.{FencedLane, Flying}
use Rattle.cf_handler.specs.Tells.{CallTells, Lates}
use Rattle.cf_fake.specs.declared.waiting.Waiting.{Waiting}
use Rattle.cf_fake.specs.Sound.{lane_of, AnswersInLane}
use Rattle.cf_fake.specs.Plan.{new_entry}

-- what the handler tells: nothing was live at first
abbrev pub flying_of : Waiting → Flying
flying_of w = record { epoch = w.epoch; token = w.token; request = w.request }

abbrev pub lane_at : List Settled → List Waiting → ℕ → FencedLane
lane_at settled waiting fence = record { state = lane_of settled; flying = map flying_of waiting; fence = fence }

-- the call before which a call of this number acts, where it is to act this number of calls later
abbrev pub due_after : ℕ → ℕ → ℕ
due_after number later = min (number + later) (2 ^ 64 - 1)

-- a request is put aside where its token is not settled
abbrev pub put_aside : Option Settlement → Waiting → List Waiting → List Waiting
put_aside (Some s) w waiting = waiting
put_aside None w waiting = waiting ++ w ∷ []

-- it is due before the call of a number: its turn has come, no fence has passed it, and its token is not settled
abbrev pub is_due : ℕ → ℕ → List Settled → Waiting → Bool
is_due number fence settled w = nat_le w.due number && (nat_le fence w.epoch && not (is_some (settlement_of w.token settled)))

-- what is settled once each has had its turn, and what waits on then
abbrev pub with_late : Schema → List ℕ → ℕ → ℕ → Waiting → List Settled → List Settled
with_late g name number fence w settled =
    if is_due number fence settled w then settled ++ new_entry None g name w.token w.request settled ∷ [] else settled

abbrev pub late_settled : Schema → List ℕ → ℕ → ℕ → List Waiting → List Settled → List Settled
late_settled g name number fence [] settled = settled
late_settled g name number fence (w ∷ ws) settled = late_settled g name number fence ws (with_late g name number fence w settled)

abbrev pub late_waiting : Schema → List ℕ → ℕ → ℕ → List Waiting → List Settled → List Waiting
late_waiting g name number fence [] settled = []
late_waiting g name number fence (w ∷ ws) settled =
    if is_due number fence settled w then late_waiting g name number fence ws (with_late g name number fence w settled)
    else w ∷ late_waiting g name number fence ws settled

-- the turn of the one that waits at a place: it is worked where it is due, and the next one stands in its place then
abbrev pub IsTurn : Schema → List ℕ → ℕ → ℕ → ℕ → Waiting → List Settled → List Waiting → List Settled → List Waiting → ℕ → Type 0
IsTurn g name number fence at w settled waiting settled' waiting' next =
    (settled' ≡ with_late g name number fence w settled)
    × (waiting' ≡ (if is_due number fence settled w then remove waiting at else waiting))
    × (next ≡ (if is_due number fence settled w then at else at + 1))

-- the lane moves as a call that ends so may move it, once some calls have acted late; where memory was wanting, no more
abbrev pub MovesBy : List ℕ → FencedLane → FencedLane → ℕ → ℕ → Request → Result Answer AllocError → Type 0
MovesBy name before after epoch token request (Ok a) =
    AnswersInLane name a × CallTells name (Some before) (Some after) epoch token request a
MovesBy name before after epoch token request (Err e) = Lates name before after
