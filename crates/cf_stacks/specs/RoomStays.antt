-- The room for a call's outcome, which is made with its intent, stays until an outcome of the call is stepped over (this
-- project's own).
use Rattle.std.specs.Prelude.{◌≡◌, ℕ, ◌==◌, Bool, true, List, [], ◌∷◌, not, Some}
use Rattle.std.specs.Str.{bytes_eq}
use Rattle.cf_tree.specs.declared.request.Request.{Request}
use Rattle.cf_entry.specs.declared.entry.Begun.{Begun}
use Rattle.cf_entry.specs.declared.entry.Begun.TheVariants as begin
use Rattle.cf_entry.specs.declared.entry.Entry.{Entry}
use Rattle.cf_entry.specs.declared.entry.Entry.TheVariants as entry
use Rattle.cf_entry.specs.declared.entry.Reply.{Reply}
use Rattle.cf_effect.specs.World.{StackState, stack_of_operation}
use Rattle.cf_stacks.specs.Room.{HasRoom, Standing, awaited_at, has_call, stack_of_call, stepped, with_room}
use Rattle.cf_effect.specs.Bounds.{IsShortReply}

-- what is done to a world: room is made for an entry, or an entry is stepped over
pub data RoomAct : Type 0 where
  MakesRoom : Entry → RoomAct
  Steps : Entry → RoomAct

abbrev pub room_acted : Standing → RoomAct → Standing
room_acted x (MakesRoom e) = with_room e x
room_acted x (Steps e) = stepped x e

abbrev pub all_acted : Standing → List RoomAct → Standing
all_acted x [] = x
all_acted x (a ∷ acts) = all_acted (room_acted x a) acts

-- the entry is no outcome of the call, and no create or update that begins on its stack, which none does while a call is open
abbrev pub works_anew : List ℕ → List ℕ → Begun → Bool
works_anew name other (begin.Create source) = bytes_eq name other
works_anew name other (begin.Update source) = bytes_eq name other
works_anew name other k = Bool.false

abbrev pub spares : List ℕ → ℕ → Entry → Bool
spares name token (entry.Begin number other k) = not (works_anew name other k)
spares name token (entry.Outcome number other answer before after) = not (other == token)
spares name token e = true

abbrev pub Spare : List ℕ → ℕ → List RoomAct → Type 0
Spare name token [] = Unit {0}
Spare name token (MakesRoom e ∷ acts) = Spare name token acts
Spare name token (Steps e ∷ acts) = (spares name token e ≡ true) × Spare name token acts

-- once an intent is stepped over, each short outcome of its call has room, whatever other entries come between
abbrev pub RoomStays : Type 0
RoomStays =
    (x : Standing) (number token : ℕ) (lane path name : List ℕ) (r : Request) (acts : List RoomAct) (later before after : ℕ)
    (answer : Reply) (s t : StackState)
    → stack_of_operation number x.world ≡ Some (name, s) → Spare name token acts
    → stack_of_operation later (all_acted (stepped x (entry.Intent number token lane path r)) acts).world ≡ Some (name, t)
    → IsShortReply answer
    → HasRoom (all_acted (stepped x (entry.Intent number token lane path r)) acts) (entry.Outcome later token answer before after)

-- a call whose outcome has room keeps that, whatever is done meanwhile
abbrev pub AwaitedStays : Type 0
AwaitedStays =
    (x : Standing) (name : List ℕ) (token : ℕ) (acts : List RoomAct)
    → Spare name token acts → has_call token (awaited_at name x) ≡ true → has_call token (awaited_at name (all_acted x acts)) ≡ true

-- room made with the intent of a call that is open is room for the call's next outcome, before the call goes out again
abbrev pub RepeatIsAwaited : Type 0
RepeatIsAwaited =
    (x : Standing) (number token : ℕ) (lane path name : List ℕ) (r : Request) (s : StackState)
    → stack_of_call token x.world ≡ Some (name, s) → has_call token (awaited_at name (with_room (entry.Intent number token lane path r) x))
    ≡ true
