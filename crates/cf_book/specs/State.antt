-- A book as plain values: the record of its disk, as far as it is known, and its lanes (this project's own).
use Rattle.std.specs.Prelude.{◌≡◌, ℕ, Bool, false, List, [], ◌∷◌, ◌++◌, Option, Some, None, map, option_map, if◌then◌else◌}
use Rattle.std.specs.Str.{bytes_eq}
use Rattle.cf_tree.specs.Lists.{In}
use Rattle.cf_entry.specs.declared.entry.Entry.{Entry}
use Rattle.cf_lane.specs.Calling.{Granted}
use Rattle.cf_lane.specs.Lanes.{LaneNow}
use Rattle.cf_next.specs.declared.home.Home.{Home}
use Rattle.cf_book.specs.declared.stop.StopFault.{StopFault}

-- a lane of the book: as it is at home, or as it was when it was lent, and the call that it was lent for
pub record BookLane : Type 0 where
  pub lane : LaneNow
  pub out : Option Granted

-- The disk; the entries that were acknowledged and, after a fault of the disk, the one that it may have; the lanes in the order in
-- which they were handed in; whether a call was granted; and what stopped the book.
pub record BookNow (D : Type 0) : Type 0 where
  pub disk : D
  pub entries : List Entry
  pub doubt : Option Entry
  pub lanes : List BookLane
  pub has_granted : Bool
  pub stopped : Option StopFault

abbrev pub at_home : LaneNow → BookLane
at_home lane = record { lane = lane; out = None }

abbrev pub lent_for : Granted → LaneNow → BookLane
lent_for call lane = record { lane = lane; out = Some call }

-- the lane is out for this call, as it was then
abbrev pub IsOut : List BookLane → LaneNow → Granted → Type 0
IsOut lanes lane call = In (lent_for call lane) lanes

-- no call is out
abbrev pub NoneOut : List BookLane → Type 0
NoneOut lanes = (b : BookLane) → In b lanes → b.out ≡ None

-- the lane of a name, in another state
abbrev pub with_lane : List ℕ → BookLane → BookLane → BookLane
with_lane name new b = if bytes_eq name b.lane.name then new else b

-- the lanes with this one at home again
abbrev pub come_home : LaneNow → List BookLane → List BookLane
come_home lane lanes = map (with_lane lane.name (at_home lane)) lanes

-- and with this one lent
abbrev pub lent_out : Granted → LaneNow → List BookLane → List BookLane
lent_out call lane lanes = map (with_lane lane.name (lent_for call lane)) lanes

-- a lane as what comes next is asked for
abbrev pub home_of : BookLane → Home
home_of b = record { name = b.lane.name; schema = b.lane.schema; out = option_map (λ c. c.token) b.out }
