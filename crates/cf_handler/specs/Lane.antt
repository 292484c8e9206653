-- The state that a handler may tell of its lane, and what is live there (this project's own).
use Rattle.std.specs.Prelude.{ℕ, ◌==◌, Bool, false, ◌||◌, not, List, [], ◌∷◌, ◌++◌, Option, Some, None, map, filter, if◌then◌else◌}
use Rattle.std.specs.Str.{bytes_eq}
use Rattle.std.specs.List.{list_any}
use Rattle.cf_tree.specs.Datum.{Data}
use Rattle.cf_tree.specs.declared.request.Request.{Request}
use Rattle.cf_tree.specs.declared.request.Request.TheVariants.{Create, Update, Delete}
use Rattle.cf_handler.specs.declared.settled.Settlement.{Settlement}
use Rattle.cf_handler.specs.declared.settled.Settlement.TheVariants.{Success, Failed}
use Rattle.cf_handler.specs.declared.settled.Settled.{Settled}

-- a resource that exists
pub record Live : Type 0 where
  pub id : List ℕ
  pub kind : List ℕ
  pub props : List (List ℕ × Data)
  pub attrs : List (List ℕ × Data)

-- what a lane is: the resources that were live before, and what was settled since, the oldest first
pub record LaneState : Type 0 where
  pub base : List Live
  pub settled : List Settled

-- the resource with new properties and attributes, where it is the one of that id
abbrev pub updated : List ℕ → List (List ℕ × Data) → List (List ℕ × Data) → Live → Live
updated id props attrs r = if bytes_eq id r.id then record { id = r.id; kind = r.kind; props = props; attrs = attrs } else r

-- what a settled call changes: a success makes, sets or takes away one resource, a refusal changes none
abbrev pub live_changed : Request → Settlement → List Live → List Live
live_changed (Create kind props) (Success id attrs) live = live ++ record { id = id; kind = kind; props = props; attrs = attrs } ∷ []
live_changed (Update id props) (Success _ attrs) live = map (updated id props attrs) live
live_changed (Delete id) (Success _ _) live = filter (λ r. not (bytes_eq id r.id)) live
live_changed _ (Failed code) live = live

-- what is live after these calls
abbrev pub live_after : List Live → List Settled → List Live
live_after live [] = live
live_after live (s ∷ ss) = live_after (live_changed s.request s.settlement live) ss

-- what is live: the base changed by the settled successes in order
abbrev pub live_of : LaneState → List Live
live_of lane = live_after lane.base lane.settled

-- whether one of them has the id
abbrev pub has_id : List ℕ → List Live → Bool
has_id id live = list_any (λ r. bytes_eq id r.id) live

-- whether a settled call succeeded with the id
abbrev pub succeeded_with : List ℕ → Settlement → Bool
succeeded_with id (Success physical attrs) = bytes_eq id physical
succeeded_with id (Failed code) = false

-- whether the id was ever used: in the base, or by a settled success
abbrev pub is_used : List ℕ → LaneState → Bool
is_used id lane = has_id id lane.base || list_any (λ s. succeeded_with id s.settlement) lane.settled

-- the answer by which the token was settled
abbrev pub settlement_of : ℕ → List Settled → Option Settlement
settlement_of token [] = None
settlement_of token (s ∷ ss) = if token == s.token then Some s.settlement else settlement_of token ss
