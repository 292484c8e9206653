-- How a lane is lent for a call, and what of the world that takes (this project's own). Public is where the lane of a call is found.
use Rattle.std.specs.Prelude.{◌≡◌, ℕ, ◌==◌, Bool, true, false, ◌&&◌, not, List, Option, Some, None, Result, Ok, Err, is_some, position, slice_get, slice_set, if◌then◌else◌}
use Rattle.std.specs.List.{list_any}
use Rattle.std.specs.Option.{option_map_or}
use Rattle.std.specs.Str.{bytes_eq}
use Rattle.cf_tree.specs.Lists.{In}
use Rattle.cf_disk.specs.declared.disk.Disk.{Ghosts as DiskGhosts}
use Rattle.cf_handler.specs.declared.handler.Handler.{Ghosts as HandlerGhosts}
use Rattle.cf_entry.specs.declared.entry.Entry.{Entry}
use Rattle.cf_entry.specs.declared.entry.Entry.TheVariants as entry
use Rattle.cf_effect.specs.Calls.{call_under}
use Rattle.cf_effect.specs.Words.{has_token}
use Rattle.cf_effect.specs.World.{StackState, World, stack_of_operation}
use Rattle.cf_stacks.specs.Room.{Standing, stack_of_call, with_room}
use Rattle.cf_lane.specs.Calling.{Granted, granted_of, leased_lane}
use Rattle.cf_lane.specs.Lanes.{lane_now}
use Rattle.cf_lane.specs.declared.lease.Lease.{Lease}
use Rattle.cf_next.specs.declared.home.Home.{Home}
use Rattle.cf_next.specs.declared.step.Next.{Next}
use Rattle.cf_next.specs.declared.step.Next.TheVariants as next
use Rattle.cf_book.specs.Inside.{StepsOver, WritesIn, doubt_in, entries_in}
use Rattle.cf_book.specs.State.{BookLane, lent_for, lent_out}
use Rattle.cf_book.specs.declared.lending.Asked.{Asked}
use Rattle.cf_book.specs.declared.record.Record.{Record}
use Rattle.cf_book.specs.declared.stop.StopFault.{StopFault}
use Rattle.cf_book.specs.declared.stop.StopFault.TheVariants as stop

-- the lane of a name is at home; a lane is out for the call of a token
abbrev pub is_free_home : List ℕ → Home → Bool
is_free_home name h = bytes_eq name h.name && not (is_some h.out)

abbrev pub is_out_for : ℕ → Home → Bool
is_out_for token h = option_map_or (λ t. token == t) h.out false

-- the place of the lane of a name that is at home, where no call of the token is out
abbrev pub free_place : List ℕ → ℕ → List Home → Option ℕ
free_place name token homes = if list_any (is_out_for token) homes then None else position (is_free_home name) homes

-- The first stack on which a call of the token is open is the one on which the operation is in progress, and its ledger has the call.
abbrev pub is_called_on : ℕ → Option (List ℕ × StackState) → Option (List ℕ × StackState) → Bool
is_called_on token (Some going) (Some called) = bytes_eq going.0 called.0 && is_some (call_under token going.1)
is_called_on token _ _ = false

-- no call of the token is open there
abbrev pub is_new_on : ℕ → Option (List ℕ × StackState) → Bool
is_new_on token (Some going) = not (list_any (has_token token) going.1.tokens)
is_new_on token None = false

-- a call is open where it is made again, and is not where it is new
abbrev pub is_expected : ℕ → ℕ → World → Bool → Bool
is_expected number token x true = is_called_on token (stack_of_operation number x) (stack_of_call token x)
is_expected number token x false = is_new_on token (stack_of_operation number x)

-- the place of the lane for a call of the operation; the call is as it should be, and none of its token is out
abbrev pub place_of : ℕ → World → List Home → List ℕ → ℕ → Bool → Option ℕ
place_of number x homes lane token twice = if is_expected number token x twice then free_place lane token homes else None

abbrev pub place_for : ℕ → World → List Home → Asked → Option ℕ
place_for number x homes a = place_of number x homes a.lane a.token a.repeated

pub record IsExpected (number : ℕ) (x : World) (homes : List Home) (a : Asked) : Type 0 where
  pub expected : is_expected number a.token x a.repeated ≡ true
  pub unused : list_any (is_out_for a.token) homes ≡ false

-- the call that is asked for, as a step, as a call and as its Intent
abbrev pub asked_step : Asked → Next
asked_step a = next.Step a.path a.lane a.token a.request a.repeated

abbrev pub call_for : ℕ → ℕ → Asked → Granted
call_for epoch number a = record { epoch = epoch; number = number; token = a.token; request = a.request }

abbrev pub intent_for : ℕ → Asked → Entry
intent_for number a = entry.Intent number a.token a.lane a.path a.request

-- a place is lent for a call, or stays as it was
abbrev pub LendsPlace : {H E : Type 0} → HandlerGhosts H → BookLane → BookLane → Granted → Result (Lease H) E → Type 0
LendsPlace g b b' call (Ok lease) = (b' ≡ lent_for call b.lane) × (granted_of lease ≡ call) × (lane_now g (leased_lane lease) ≡ b.lane)
LendsPlace g b b' call (Err e) = b' ≡ b

-- so is the one at a place
abbrev pub LendsAt : {H E : Type 0} → HandlerGhosts H → List BookLane → List BookLane → ℕ → Granted → Result (Lease H) E → Type 0
LendsAt g lanes lanes' at call (Ok lease) =
    (b : BookLane) × (slice_get lanes at ≡ Some b) × (b.out ≡ None) × (lanes' ≡ slice_set lanes at (lent_for call b.lane))
    × (granted_of lease ≡ call) × (lane_now g (leased_lane lease) ≡ b.lane)
LendsAt g lanes lanes' at call (Err e) = lanes' ≡ lanes

-- the same of a lease that comes with an entry
abbrev pub LendsFrom : {H E : Type 0} → HandlerGhosts H → List BookLane → List BookLane → ℕ → Granted → Result (Lease H × Entry) E → Type 0
LendsFrom {E = E} g lanes lanes' at call (Ok lent) = LendsAt {E = E} g lanes lanes' at call (Ok lent.0)
LendsFrom g lanes lanes' at call (Err e) = lanes' ≡ lanes

-- the lane of a name, which is at home, is lent for a call; or the lanes stay as they were
pub record IsLentTo {H : Type 0} (g : HandlerGhosts H) (lanes lanes' : List BookLane) (name : List ℕ) (call : Granted) (lease : Lease H)
    (b : BookLane) : Type 0 where
  pub home : In b lanes
  pub free : b.out ≡ None
  pub lent : lanes' ≡ lent_out call b.lane lanes
  pub named : b.lane.name ≡ name
  pub granted : granted_of lease ≡ call
  pub owns : lane_now g (leased_lane lease) ≡ b.lane

abbrev pub LendsTo : {H E : Type 0} → HandlerGhosts H → List BookLane → List BookLane → List ℕ → Granted → Result (Lease H) E → Type 0
LendsTo g lanes lanes' name call (Ok lease) = (b : BookLane) × IsLentTo g lanes lanes' name call lease b
LendsTo g lanes lanes' name call (Err e) = lanes' ≡ lanes

abbrev pub Lends : {H E : Type 0} → HandlerGhosts H → List BookLane → List BookLane → List ℕ → Granted → Result (Lease H × Entry) E → Type 0
Lends g lanes lanes' name call (Ok lent) = (b : BookLane) × IsLentTo g lanes lanes' name call lent.0 b
Lends g lanes lanes' name call (Err e) = lanes' ≡ lanes

-- The record of a book where a call is granted: the Intent of a new one is appended; one that is made again changes nothing of it, and
-- only memory may be lacking.
abbrev pub IsSameRecord : {D : Type 0} → Record D → Record D → Type 0
IsSameRecord old new = (new.disk ≡ old.disk) × (entries_in new ≡ entries_in old) × (doubt_in new ≡ doubt_in old)

abbrev pub EntersIn : {D T : Type 0} → DiskGhosts D → Record D → Record D → Bool → Entry → Result T StopFault → Type 0
EntersIn g old new false e result = WritesIn g old new e result
EntersIn g old new true e (Ok x) = IsSameRecord old new
EntersIn g old new true e (Err stop.NoMemory) = IsSameRecord old new
EntersIn g old new true e (Err fault) = ⊥

-- the world has stepped over the Intent; or there is room for the call's next outcome
abbrev pub AwaitsAs : Bool → Standing → Entry → Standing → Type 0
AwaitsAs false x e z = StepsOver x e z
AwaitsAs true x e z = z ≡ with_room e x
