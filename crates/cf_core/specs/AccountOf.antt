-- The account of a world and of the entries that left it, and the lanes of a life as functions (this project's own).
use Rattle.std.specs.Prelude.{ℕ, ◌==◌, Bool, true, false, ◌&&◌, not, List, [], ◌∷◌, Option, Some, None, find, if◌then◌else◌}
use Rattle.std.specs.List.{list_any}
use Rattle.std.specs.Option.{option_or, option_map, option_map_or}
use Rattle.std.specs.Str.{bytes_eq}
use Rattle.cf_tree.specs.Keys.{value_at}
use Rattle.cf_handler.specs.declared.settled.Settlement.{Settlement}
use Rattle.cf_handler.specs.declared.settled.Settlement.TheVariants as settlement
use Rattle.cf_entry.specs.declared.entry.Entry.{Entry}
use Rattle.cf_entry.specs.declared.entry.Reply.{Reply}
use Rattle.cf_entry.specs.declared.entry.Reply.TheVariants as reply
use Rattle.cf_effect.specs.declared.held.Held.{Held}
use Rattle.cf_effect.specs.declared.held.Leftover.{Leftover as Left}
use Rattle.cf_effect.specs.declared.held.Pending.{Pending}
use Rattle.cf_effect.specs.World.{StackState, World}
use Rattle.cf_effect.specs.Status.{is_in_progress}
use Rattle.cf_effect.specs.Words.{has_physical, has_token, unknown_id}
use Rattle.cf_effect.specs.Operation.{Response, replies_in}
use Rattle.cf_plan.specs.Lanes.{call_at}
use Rattle.cf_plan.specs.Follow.{is_opened_since}
use Rattle.cf_plan.specs.Lanes.{Lane, lane_at}
use Rattle.cf_agree.specs.Lanes.{Lanes, no_lane}
use Rattle.cf_agree.specs.Account.{Thing, Role, Called, Open, Account}
use Rattle.cf_agree.specs.Account.Role.{Stranger, Resource, Leftover}

-- the stacks, by name
abbrev pub StacksByName : Type 0
StacksByName = List (List ℕ × StackState)

-- what an id is to one stack, and to the stacks: the first that knows it tells
abbrev pub thing_of : List ℕ → Held → Thing
thing_of name h = record { stack = name; path = h.path; kind = h.kind; props = h.props; attrs = h.attrs; sure = not h.unsure }

abbrev pub has_leftover : List ℕ → List Left → Bool
has_leftover i ls = not (bytes_eq i unknown_id) && list_any (λ l. bytes_eq i l.physical) ls

abbrev pub role_found : List ℕ → Option Held → Bool → Role
role_found name (Some h) left = Resource (thing_of name h)
role_found name None true = Leftover
role_found name None false = Stranger

abbrev pub held_in : List ℕ → StackState → Option Held
held_in i s = option_or (find (has_physical i) s.held) (find (has_physical i) s.made)

abbrev pub role_on : List ℕ → StackState → List ℕ → Role
role_on name s i = role_found name (held_in i s) (has_leftover i s.leftovers)

abbrev pub role_or : Role → Role → Role
role_or Stranger r = r
role_or (Resource t) r = Resource t
role_or Leftover r = Leftover

abbrev pub role_in : StacksByName → List ℕ → Role
role_in [] i = Stranger
role_in (s ∷ ss) i = role_or (role_on s.0 s.1 i) (role_in ss i)

-- the open call of a token
abbrev pub open_as : List ℕ → Pending → Open
open_as name p = record { stack = name; path = p.path; lane = p.lane; request = p.request }

abbrev pub open_on : List ℕ → StackState → ℕ → Option Open
open_on name s t = option_map (open_as name) (find (has_token t) s.tokens)

abbrev pub open_in : StacksByName → ℕ → Option Open
open_in [] t = None
open_in (s ∷ ss) t = option_or (open_on s.0 s.1 t) (open_in ss t)

-- the token's create was given up
abbrev pub lost_on : StackState → ℕ → Bool
lost_on s t = list_any (λ g. t == g.token) s.abandoned

abbrev pub lost_in : StacksByName → ℕ → Bool
lost_in ss t = list_any (λ s. lost_on s.1 t) ss

-- the call and the answer for good of a token
abbrev pub called_as : Pending → Called
called_as p = record { path = p.path; lane = p.lane; request = p.request }

abbrev pub call_in : List Entry → ℕ → Option Called
call_in es t = option_map called_as (call_at t es)

abbrev pub for_good : Reply → Option Settlement
for_good (reply.Success physical attrs) = Some (settlement.Success physical attrs)
for_good (reply.Failed code) = Some (settlement.Failed code)
for_good reply.Doubt = None

abbrev pub told_among : List Response → ℕ → Option Settlement
told_among [] t = None
told_among (r ∷ rs) t = option_or (if t == r.token then for_good r.answer else None) (told_among rs t)

abbrev pub told_in : List Entry → ℕ → Option Settlement
told_in es t = told_among (replies_in es) t

-- no operation of the stack is in progress, and an opening stands after its last end
abbrev pub is_at_rest : StackState → Bool
is_at_rest s = not (is_in_progress s.status) && is_opened_since s

abbrev pub resting_in : StacksByName → List ℕ → Bool
resting_in ss name = option_map_or is_at_rest (value_at name ss) false

-- the types of the lanes that an opening names
abbrev pub lane_types : List (List ℕ × List ℕ) → List ℕ → Option (List ℕ)
lane_types lanes n = option_map (λ l. l.1) (find (λ l. bytes_eq n l.0) lanes)

abbrev pub account_of : List Entry → World → Account
account_of es x = record {
  role = role_in x.stacks;
  open_ = open_in x.stacks;
  lost = lost_in x.stacks;
  call = call_in es;
  told = told_in es;
  resting = resting_in x.stacks;
  named = lane_types x.lanes;
  last = x.token;
  epoch = x.epoch;
}

-- the lanes of a life
abbrev pub lanes_of : List Lane → Lanes
lanes_of ls = record {
  kind = λ n. option_map (λ l. l.kind) (lane_at n ls);
  lane = λ n. option_map_or (λ l. l.state) (lane_at n ls) no_lane;
}
