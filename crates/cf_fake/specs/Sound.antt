-- What the handler in memory keeps true: each success is of an id that a token made, with short attributes; so is each live resource
-- (this project's own).
use Rattle.std.specs.Prelude.{ℕ, ◌^◌, ◌≤◌, Bool, true, ◌&&◌, List, [], length, nat_le, nat_lt, IsTrue}
use Rattle.std.specs.Str.{bytes_eq}
use Rattle.std.specs.List.{list_all, list_any}
use Rattle.cf_tree.specs.Limits.{most_attrs_bytes}
use Rattle.cf_tree.specs.SizeOf.{size_of_dict}
use Rattle.cf_tree.specs.declared.request.Answer.{Answer}
use Rattle.cf_tree.specs.declared.request.Answer.TheVariants as answer
use Rattle.cf_handler.specs.Move.{AreShort, IsOfLane}
use Rattle.cf_handler.specs.Lane.{LaneState, Live, live_of}
use Rattle.cf_handler.specs.declared.settled.Settlement.{Settlement}
use Rattle.cf_handler.specs.declared.settled.Settlement.TheVariants.{Success, Failed}
use Rattle.cf_handler.specs.declared.settled.Settled.{Settled}
use Rattle.cf_answers.specs.Table.{id_of}
use Rattle.cf_answers.specs.Live.{differ}

-- the id is that of a settled token
abbrev pub is_made_by : List ℕ → List ℕ → Settled → Bool
is_made_by name id s = bytes_eq (id_of name s.token) id && nat_lt s.token (2 ^ 64)

abbrev pub is_known : List ℕ → List Settled → List ℕ → Bool
is_known name settled id = list_any (is_made_by name id) settled

abbrev pub is_sound : List ℕ → List Settled → Settlement → Bool
is_sound name all (Success physical attrs) = is_known name all physical && nat_le (size_of_dict attrs) most_attrs_bytes
is_sound name all (Failed code) = true

abbrev pub are_sound : List ℕ → List Settled → List Settled → Bool
are_sound name all settled = list_all (λ s. is_sound name all s.settlement) settled

abbrev pub are_known : List ℕ → List Settled → List Live → Bool
are_known name settled live = list_all (λ r. is_known name settled r.id) live

abbrev pub are_short : List Live → Bool
are_short live = list_all (λ r. nat_le (size_of_dict r.attrs) 524288) live

-- what a handler holds in which nothing was live at first
abbrev pub lane_of : List Settled → LaneState
lane_of settled = record { base = []; settled = settled }

-- what the handler keeps true of the settled calls: their answers are sound, and what is live has ids of settled tokens, which differ, and
-- short attributes
pub record IsSoundTable (name : List ℕ) (settled : List Settled) : Type 0 where
  pub sound : IsTrue (are_sound name settled settled)
  pub known : IsTrue (are_known name settled (live_of (lane_of settled)))
  pub differ : IsTrue (differ (live_of (lane_of settled)))
  pub short : IsTrue (are_short (live_of (lane_of settled)))

-- an answer is within the limits, its id is of the lane, and it is not stale
abbrev pub AnswersInLane : List ℕ → Answer → Type 0
AnswersInLane name (answer.Success physical attrs) = IsOfLane name physical × (length physical ≤ 1024) × AreShort attrs
AnswersInLane name (answer.Stale fence) = ⊥
AnswersInLane name a = Unit {0}
