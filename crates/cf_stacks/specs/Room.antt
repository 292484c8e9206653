-- Room for entries: for what it is, and what a step takes of it. How much memory that is, is the world's own matter (this
-- project's own).
use Rattle.std.specs.Prelude.{◌≡◌, ⊤, ℕ, ◌==◌, ◌≤◌, ◌⊎◌, Bool, true, false, not, List, [], ◌∷◌, ◌++◌, Option, Some, None, filter, find, is_some, length, map}
use Rattle.std.specs.List.{list_any}
use Rattle.std.specs.Option.{option_map_or, unwrap_or}
use Rattle.cf_tree.specs.Keys.{put, value_at}
use Rattle.cf_entry.specs.declared.entry.Begun.TheVariants as begin
use Rattle.cf_entry.specs.declared.entry.Entry.{Entry}
use Rattle.cf_entry.specs.declared.entry.Entry.TheVariants as entry
use Rattle.cf_entry.specs.declared.entry.Reply.{Reply}
use Rattle.cf_entry.specs.declared.entry.Reply.TheVariants as reply
use Rattle.cf_effect.specs.World.{StackState, World, stack_of_operation}
use Rattle.cf_effect.specs.Words.{pending_of}
use Rattle.cf_effect.specs.Fold.{stack_for, world_after}
use Rattle.cf_effect.specs.Bounds.{IsShortReply}

-- a world, the entry that it has room for, and of each stack, by its name, the open calls whose next outcome has room
pub record Standing : Type 0 where
  pub world : World
  pub ready : Option Entry
  pub awaited : List (List ℕ × List ℕ)

-- a stack, the calls of it whose next outcome has room, and how many intents or outcomes may join it besides
pub record StackStanding : Type 0 where
  pub stack : StackState
  pub awaited : List ℕ
  pub spare : ℕ

-- a world without any room
abbrev pub no_calls : List ℕ × StackState → List ℕ × List ℕ
no_calls s = (s.0, [])

abbrev pub bare : World → Standing
bare x = record { world = x; ready = None; awaited = map no_calls x.stacks }

-- the calls of a stack whose outcome has room, by their tokens; one less of them, and one more, which is the last
abbrev pub awaited_at : List ℕ → Standing → List ℕ
awaited_at name x = unwrap_or (value_at name x.awaited) []

abbrev pub has_call : ℕ → List ℕ → Bool
has_call token ts = list_any (λ t. token == t) ts

abbrev pub without_awaited : ℕ → List ℕ → List ℕ
without_awaited token ts = filter (λ t. not (token == t)) ts

abbrev pub with_awaited : ℕ → List ℕ → List ℕ
with_awaited token ts = without_awaited token ts ++ token ∷ []

-- the stack, with its name, on which the call of this token is open
abbrev pub stack_of_call : ℕ → World → Option (List ℕ × StackState)
stack_of_call token x = find (λ s. is_some (pending_of token s.1)) x.stacks

-- Room is made for one entry, in place of that for another one. By the intent of a call that is open already it is made for
-- the call's next outcome as well, before the call goes out again.
abbrev pub awaited_with : Entry → Standing → List (List ℕ × List ℕ)
awaited_with (entry.Intent number token lane path r) x =
    option_map_or (λ s. put s.0 (with_awaited token (awaited_at s.0 x)) x.awaited) (stack_of_call token x.world) x.awaited
awaited_with e x = x.awaited

abbrev pub with_room : Entry → Standing → Standing
with_room e x = record { world = x.world; ready = Some e; awaited = awaited_with e x }

-- the outcome of the call of this token is awaited on the stack of the operation
abbrev pub is_awaited : ℕ → ℕ → Standing → Bool
is_awaited number token x = option_map_or (λ s. has_call token (awaited_at s.0 x)) (stack_of_operation number x.world) false

-- There is room for a step over this entry: it was made for the entry, or with the intent of the call whose outcome it is.
abbrev pub HasRoom : Standing → Entry → Type 0
HasRoom x (entry.Outcome number token answer before after) =
    ((is_awaited number token x ≡ true) × IsShortReply answer) ⊎ (x.ready ≡ Some (entry.Outcome number token answer before after))
HasRoom x e = x.ready ≡ Some e

-- the answer of an outcome
abbrev pub answer_in : Entry → Option Reply
answer_in (entry.Outcome number token answer before after) = Some answer
answer_in e = None

-- An intent leaves its call awaited, an outcome takes its call's room. A create or update begins on its stack with no call awaited.
abbrev pub calls_after : Entry → List ℕ → List ℕ
calls_after (entry.Begin number name (begin.Create source)) ts = []
calls_after (entry.Begin number name (begin.Update source)) ts = []
calls_after (entry.Intent number token lane path r) ts = with_awaited token ts
calls_after (entry.Outcome number token answer before after) ts = without_awaited token ts
calls_after e ts = ts

abbrev pub awaited_after : Entry → Standing → List (List ℕ × List ℕ)
awaited_after e x = option_map_or (λ s. put s.0 (calls_after e (awaited_at s.0 x)) x.awaited) (stack_for e x.world) x.awaited

-- the room for one entry is for the next step
abbrev pub stepped : Standing → Entry → Standing
stepped x e = record { world = world_after x.world e; ready = None; awaited = awaited_after e x }

-- after an error there is no room for an entry; the world is as it was, and at most one call more is awaited
abbrev pub KeepsRooms : Standing → Entry → Standing → Type 0
KeepsRooms x e y = (y ≡ record x { ready = None }) ⊎ (y ≡ record x { ready = None; awaited = awaited_with e x })
