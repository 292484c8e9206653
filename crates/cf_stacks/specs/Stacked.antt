-- How a stack's fields, with what is laid by for its calls, stand for its record (this project's own).
use Rattle.std.specs.Prelude.{ℕ, ◌+◌, ◌≤◌, IfSome, List, map, vec_len, vec_capacity}
use Rattle.std.specs.List.{AllByRecursion}
use Rattle.cf_stacks.specs.declared.room.CallRoom.{CallRoom}
use Rattle.cf_stacks.specs.declared.stack.StackState.TheInside.{Inside}
use Rattle.cf_stacks.specs.Room.{StackStanding}
use Rattle.cf_stacks.specs.Spare.{HaveOwnTokens, IsRoomFor}
use Rattle.cf_effect.specs.Ahead.{AreKept}
use Rattle.cf_effect.specs.Restoring.{IsRestoring}
use Rattle.cf_effect.specs.Undoing.{IsUndoing}
use Rattle.cf_effect.specs.Reserve.{HasSpare}
use Rattle.cf_effect.specs.State.{state_of}

abbrev pub token_of_room : CallRoom → ℕ
token_of_room r = r.token

abbrev pub stacked : Inside → StackStanding
stacked i = record { stack = state_of i.state; awaited = map token_of_room i.rooms.items; spare = i.spare }

-- An intent or outcome takes at most two places in each list: one for its call and one for the entry.
abbrev pub places_for : ℕ → ℕ
places_for n = n + n

-- the calls that are awaited have their room, and so have as many intents or outcomes as are said; tokens tell open calls apart;
-- and what is kept of paths is right
pub record IsStacked (i : Inside) : Type 0 where
  pub lists : HasSpare (places_for (vec_len i.rooms + i.spare)) i.state
  pub room : vec_len i.rooms + i.spare ≤ vec_capacity i.rooms
  pub rooms : AllByRecursion (IsRoomFor (state_of i.state)) i.rooms.items
  pub apart : HaveOwnTokens i.state.tokens.items
  pub findings : IfSome i.findings (AreKept (state_of i.state))
  pub undoing : IfSome i.undoing (IsUndoing (state_of i.state))
  pub restoring : IfSome i.restoring (IsRestoring (state_of i.state))
