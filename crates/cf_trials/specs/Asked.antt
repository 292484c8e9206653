-- What the tests of rooms ask of a world (this project's own).
use Rattle.std.specs.Prelude.{◌≡◌, ℕ, Bool, true, false, List, [], codes}
use Rattle.std.specs.Option.{option_map_or}
use Rattle.std.specs.Str.{bytes_eq}
use Rattle.cf_tree.specs.declared.request.Request.{Request}
use Rattle.cf_entry.specs.declared.entry.Entry.{Entry}
use Rattle.cf_entry.specs.declared.entry.Entry.TheVariants as entry
use Rattle.cf_effect.specs.World.{World, stack_of_operation}
use Rattle.cf_stacks.specs.Room.{Standing, stepped}
use Rattle.cf_stacks.specs.RoomStays.{RoomAct, Spare, all_acted}

-- operation 1 is in progress on the stack `s`
abbrev pub is_on_s : World → Bool
is_on_s x = option_map_or (λ s. bytes_eq (codes "s") s.0) (stack_of_operation 1 x) false

-- the intent of a call of operation 1
abbrev pub intent_of : ℕ → List ℕ → Request → Entry
intent_of token path r = entry.Intent 1 token [] path r

-- the call was asked for on `s`, and nothing that was done since takes the room for its outcome
pub record WasAsked (token : ℕ) (x : Standing) : Type 0 where
  pub before : Standing
  pub path : List ℕ
  pub request : Request
  pub acts : List RoomAct
  pub on_s : is_on_s before.world ≡ true
  pub spare : Spare (codes "s") token acts
  pub since : x ≡ all_acted (stepped before (intent_of token path request)) acts
