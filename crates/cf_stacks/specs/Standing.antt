-- How the fields of a world stand for its record, and what is prepared for an entry (this project's own).
use Rattle.std.specs.Prelude.{◌≡◌, ℕ, ◌+◌, ◌-◌, ◌<◌, ◌≤◌, ◌^◌, Bool, true, false, List, [], ◌∷◌, ◌++◌, Option, Some, None, IfSome, find, is_some, length, map, option_map, vec_capacity}
use Rattle.std.specs.List.{AllByRecursion}
use Rattle.std.specs.Option.{option_map_or, unwrap_or}
use Rattle.cf_tree.specs.Keys.{put, value_at}
use Rattle.cf_tree.specs.declared.request.Request.{Request}
use Rattle.cf_entry.specs.declared.entry.Entry.{Entry}
use Rattle.cf_entry.specs.declared.entry.Entry.TheVariants as entry
use Rattle.cf_stacks.specs.declared.standing.Fields.{Fields}
use Rattle.cf_stacks.specs.declared.standing.Left.{Left}
use Rattle.cf_stacks.specs.declared.stack.CallParts.{CallParts}
use Rattle.cf_effect.specs.declared.state.State.{State}
use Rattle.cf_effect.specs.Words.{pending_of}
use Rattle.cf_effect.specs.World.{StackState, World, no_stack}
use Rattle.cf_effect.specs.Calls.{new_call}
use Rattle.cf_effect.specs.Effect.{Effect}
use Rattle.cf_effect.specs.Event.{lines_of}
use Rattle.cf_effect.specs.Fold.{effect_at, world_after}
use Rattle.cf_effect.specs.Listed.{exports_after, pins_after}
use Rattle.cf_effect.specs.Reply.{intending}
use Rattle.cf_stacks.specs.Room.{Standing, StackStanding, awaited_after, calls_after, with_awaited}
use Rattle.cf_stacks.specs.Spare.{HaveOwnTokens, IsRoomFor, LeavesCalls}
use Rattle.cf_effect.specs.Reserve.{HasSpare}
use Rattle.cf_stacks.specs.Stacked.{places_for}
use Rattle.cf_effect.specs.State.{state_of}

abbrev pub NamedStanding : Type 0
NamedStanding = List ℕ × StackStanding

-- a stack without what it has room for, and its calls whose outcome has room
abbrev pub stack_in : NamedStanding → List ℕ × StackState
stack_in s = (s.0, s.1.stack)

abbrev pub calls_in : NamedStanding → List ℕ × List ℕ
calls_in s = (s.0, s.1.awaited)

abbrev pub world_in : Fields → World
world_in x = record {
  stacks = map stack_in x.stacks;
  exports = x.exports;
  pins = x.pins;
  claims = x.claims;
  lanes = x.lanes;
  epoch = x.epoch;
  operation = x.operation;
  set = x.set;
  token = x.token;
  place = x.place;
}

abbrev pub awaited_in : Fields → List (List ℕ × List ℕ)
awaited_in x = map calls_in x.stacks

-- how many calls are awaited
abbrev pub calls_total : List NamedStanding → ℕ
calls_total [] = 0
calls_total (s ∷ stacks) = length s.1.awaited + calls_total stacks

-- what a stack is left as, of which nothing may have been known
abbrev pub stack_known : Option StackStanding → StackState
stack_known s = option_map_or (λ t. t.stack) s no_stack

abbrev pub awaited_known : Option StackStanding → List ℕ
awaited_known s = option_map_or (λ t. t.awaited) s []

abbrev pub left_as : Entry → State → Option StackStanding → StackStanding
left_as e state was = record { stack = state_of state; awaited = calls_after e (awaited_known was); spare = 0 }

-- the memory for that: for a stack that is new the map of all stacks gets longer
abbrev pub LeftFits : Entry → State → ℕ → ℕ → Option StackStanding → Type 0
LeftFits e state room count None = HasSpare 0 state × HaveOwnTokens state.tokens.items × (count + 1 ≤ room)
LeftFits e state room count (Some s) =
    HasSpare (places_for (length s.awaited)) state × (HaveOwnTokens s.stack.tokens → LeavesCalls e s.stack (state_of state))

-- what an entry leaves of its stack and of the lists of all stacks
pub record IsLeft (e : Entry) (name : List ℕ) (left : Left) (x : Fields) : Type 0 where
  pub stack : state_of left.state ≡ (effect_at (x.place + 1) e (stack_known (value_at name x.stacks))).stack
  pub exports : unwrap_or left.exports x.exports
      ≡ exports_after name (effect_at (x.place + 1) e (stack_known (value_at name x.stacks))).exports x.exports
  pub pins : unwrap_or left.pins x.pins ≡ pins_after name (effect_at (x.place + 1) e (stack_known (value_at name x.stacks))).pins x.pins
  pub claims : unwrap_or left.claims x.claims
      ≡ pins_after name (effect_at (x.place + 1) e (stack_known (value_at name x.stacks))).claims x.claims
  pub fits : LeftFits e left.state (vec_capacity left.more) (length x.stacks) (value_at name x.stacks)
  pub empty : left.more.items ≡ []

-- a stack on which a call goes out, of which it hears: that takes what is laid by for the intent and for its outcome
abbrev pub stack_called : CallParts → Entry → StackStanding → StackStanding
stack_called parts e s = record {
  stack = record (intending parts.call.number parts.pending s.stack)
      { entries = s.stack.entries ++ e ∷ []; events = s.stack.events ++ parts.line ∷ [] };
  awaited = with_awaited parts.pending.token s.awaited;
  spare = s.spare - 2;
}

pub record CallFits (parts : CallParts) (s : StackStanding) : Type 0 where
  pub row : parts.call ≡ new_call parts.call.number s.stack.status parts.pending
  pub room : IsRoomFor (intending parts.call.number parts.pending s.stack) parts.room
  pub token : parts.room.token ≡ parts.pending.token
  pub spare : 2 ≤ s.spare

-- a stack that takes an outcome, or hears of an opening
abbrev pub answered_at : ℕ → Entry → StackStanding → StackStanding
answered_at place e s = record { stack = (effect_at place e s.stack).stack; awaited = calls_after e s.awaited; spare = s.spare }

abbrev pub opened_as : ℕ → Entry → StackStanding → StackStanding
opened_as place e s = record { stack = (effect_at place e s.stack).stack; awaited = s.awaited; spare = s.spare - 1 }

abbrev pub HasOne : NamedStanding → Type 0
HasOne s = 1 ≤ s.1.spare

-- what an intent brings to its stack
abbrev pub IsPartsOf : Entry → CallParts → ℕ → StackState → Type 0
IsPartsOf (entry.Intent number token lane path r) parts place s =
    (parts.call.number ≡ number) × (parts.pending ≡ record { token = token; path = path; lane = lane; request = r })
    × (parts.line ∷ [] ≡ lines_of place (entry.Intent number token lane path r) s)
IsPartsOf e parts place s = ⊥

-- a step over an entry
abbrev pub standing_in : Fields → Standing
standing_in x = record { world = world_in x; ready = None; awaited = awaited_in x }

pub record StepsOver (old : Fields) (e : Entry) (new : Fields) : Type 0 where
  pub world : world_in new ≡ world_after (world_in old) e
  pub awaited : awaited_in new ≡ awaited_after e (standing_in old)

-- memory is laid by, and nothing else changes
pub record KeepsStacks (old new : Fields) : Type 0 where
  pub rest : new ≡ record old { stacks = new.stacks }
  pub stacks : map stack_in new.stacks ≡ map stack_in old.stacks
  pub calls : map calls_in new.stacks ≡ map calls_in old.stacks

-- the calls that are awaited once the first open call of a token is, too
abbrev pub has_open : ℕ → NamedStanding → Bool
has_open token s = is_some (pending_of token s.1.stack)

abbrev pub awaits_on : ℕ → List NamedStanding → List (List ℕ × List ℕ)
awaits_on token stacks =
    option_map_or (λ s. put s.0 (with_awaited token s.1.awaited) (map calls_in stacks)) (find (has_open token) stacks) (map calls_in stacks)
