-- What a book keeps, and what always holds of it (this project's own). No public definition rests on this.
use Rattle.std.specs.Prelude.{◌≡◌, ◌⊎◌, ℕ, ◌+◌, ◌≤◌, Bool, true, List, Option, Some, None, IsTrue, Result, Ok, map, filter_map, option_map, length, vec_len, vec_capacity, is_some, []}
use Rattle.std.specs.Global.{Vec}
use Rattle.std.specs.Str.{bytes_eq}
use Rattle.cf_tree.specs.Lists.{In}
use Rattle.cf_tree.specs.Named.{all_differ}
use Rattle.cf_disk.specs.declared.disk.Disk.{Ghosts as DiskGhosts}
use Rattle.cf_handler.specs.declared.handler.Handler.{Ghosts as HandlerGhosts}
use Rattle.cf_entry.specs.declared.entry.Entry.{Entry}
use Rattle.cf_journal.specs.Record.{Stands, record_of, spare_of}
use Rattle.cf_lane.specs.Calling.{Granted}
use Rattle.cf_lane.specs.Lanes.{LaneNow, lane_now}
use Rattle.cf_lane.specs.declared.lane.Lane.{Lane}
use Rattle.cf_next.specs.declared.home.Home.{Home}
use Rattle.cf_effect.specs.Calls.{call_under}
use Rattle.cf_effect.specs.World.{StackState, stack_of_operation}
use Rattle.cf_stacks.specs.Apart.{AreApart}
use Rattle.cf_stacks.specs.Room.{KeepsRooms, Standing, awaited_at, has_call, stepped, with_room}
use Rattle.cf_book.specs.Record.{AppendsTo, IsKnown, WritesTo, with_doubt, world_left}
use Rattle.cf_book.specs.State.{BookLane, BookNow, IsOut, at_home, home_of, lent_for}
use Rattle.cf_book.specs.declared.place.Call.{Call}
use Rattle.cf_book.specs.declared.place.Place.{Place}
use Rattle.cf_book.specs.declared.place.Place.TheVariants.{Home as Kept, Out}
use Rattle.cf_book.specs.declared.record.Record.{Record}
use Rattle.cf_book.specs.declared.stop.StopFault.{StopFault}

-- a call that was granted, and a lane of the book
abbrev pub call_in : Call → Granted
call_in c = record { epoch = c.epoch; number = c.number; token = c.token; request = c.request.value }

abbrev pub place_now : {H : Type 0} → HandlerGhosts H → Place H → BookLane
place_now g (Kept lane) = at_home (lane_now g lane)
place_now g (Out call lane) = lent_for (call_in call) (lane_now g lane.value)

abbrev pub places_now : {H : Type 0} → HandlerGhosts H → List (Place H) → List BookLane
places_now g places = map (place_now g) places

-- the entries that were acknowledged, and the one in doubt
abbrev pub entries_in : {D : Type 0} → Record D → List Entry
entries_in r = map (λ e. e.value) r.entries.items

abbrev pub doubt_in : {D : Type 0} → Record D → Option Entry
doubt_in r = option_map (λ e. e.value) r.doubt

-- the book as plain values: its record, its lanes, whether it has granted and what stopped it
abbrev pub book_of : {D : Type 0} → Record D → List BookLane → Bool → Option StopFault → BookNow D
book_of r lanes granted stopped = record {
  disk = r.disk;
  entries = entries_in r;
  doubt = doubt_in r;
  lanes = lanes;
  has_granted = granted;
  stopped = stopped;
}

abbrev pub name_of : BookLane → List ℕ
name_of b = b.lane.name

abbrev pub calls_out : List BookLane → List Granted
calls_out lanes = filter_map (λ b. b.out) lanes

-- the journal stands for the disk, which has just the entries that were acknowledged
pub record IsOpen {D : Type 0} (g : DiskGhosts D) (r : Record D) : Type 0 where
  pub stands : Stands g.tells g.seen g.may_leave g.room_of r.journal r.disk
  pub holds : IsTrue g.tells → record_of (g.seen r.disk) ≡ Ok (entries_in r)
  pub certain : doubt_in r ≡ None

-- the lane is out, under this name and of this type
abbrev pub MayComeHome : {H : Type 0} → HandlerGhosts H → List BookLane → Lane H → Type 0
MayComeHome g lanes lane =
    (was : LaneNow) × (call : Granted) × IsOut lanes was call × (was.name ≡ (lane_now g lane).name)
    × (was.schema ≡ (lane_now g lane).schema)

-- what is known of the disk
abbrev pub known_in : {D : Type 0} → DiskGhosts D → Record D → Type 0
known_in g r = IsKnown g r.disk (entries_in r) (doubt_in r)

-- an entry was appended, or not (the record of a book: what `Appends` says of it)
abbrev pub AppendsIn : {D T : Type 0} → DiskGhosts D → Record D → Record D → Entry → Result T StopFault → Type 0
AppendsIn g old new e result = AppendsTo g old.disk new.disk (entries_in old) (entries_in new) (doubt_in old) (doubt_in new) e result

abbrev pub WritesIn : {D T : Type 0} → DiskGhosts D → Record D → Record D → Entry → Result T StopFault → Type 0
WritesIn g old new e result = WritesTo g old.disk new.disk (entries_in old) (entries_in new) (doubt_in old) (doubt_in new) e result

-- room was made for an entry or was not, and no call has lost its room
abbrev pub KeepsCalls : Standing → Entry → Standing → Type 0
KeepsCalls x e y = (y ≡ x) ⊎ ((y ≡ with_room e x) ⊎ KeepsRooms x e y)

-- the world is a step further over an entry for which room was made before
abbrev pub StepsOver : Standing → Entry → Standing → Type 0
StepsOver x e z = (y : Standing) × KeepsCalls x e y × (z ≡ stepped y e)

-- The operation of a call that is out is in progress on a stack whose ledger has the call, and there is room in the world for its outcome.
pub record IsAwaited (x : Standing) (call : Granted) : Type 0 where
  pub name : List ℕ
  pub stack : StackState
  pub at : stack_of_operation call.number x.world ≡ Some (name, stack)
  pub row : is_some (call_under call.token stack) ≡ true
  pub room : has_call call.token (awaited_at name x) ≡ true

-- All that settling the calls that are out takes is there: the spelling of the longest outcome has at most 525,350 bytes.
pub record IsReady {D : Type 0} (g : DiskGhosts D) (r : Record D) (lanes : List BookLane) : Type 0 where
  pub appends : IsOpen g r
  pub spare : 525350 ≤ spare_of r.journal
  pub places : vec_len r.entries + length (calls_out lanes) ≤ vec_capacity r.entries
  pub apart : AreApart r.world.world
  pub awaited : (b : BookLane) (call : Granted) → In b lanes → b.out ≡ Some call → IsAwaited r.world call
  pub once : (b d : BookLane) (call other : Granted) → In b lanes → In d lanes → b.out ≡ Some call → d.out ≡ Some other
      → call.token ≡ other.token → b ≡ d

-- what always holds: what is known of the disk, the world, the names of the lanes, the opening of the calls that are out; and, until the
-- book stops, that it is ready
pub record IsRight {D : Type 0} (g : DiskGhosts D) (r : Record D) (lanes : List BookLane) (homes : List Home) (stopped : Option StopFault)
    : Type 0 where
  pub known : IsKnown g r.disk (entries_in r) (doubt_in r)
  pub world : r.world.world ≡ world_left (entries_in r)
  pub homes_are : homes ≡ map home_of lanes
  pub names_differ : all_differ bytes_eq (map name_of lanes) ≡ true
  pub epochs : (b : BookLane) (call : Granted) → In b lanes → b.out ≡ Some call
      → (call.epoch ≡ (world_left (entries_in r)).epoch) × (call.epoch ≡ (world_left (with_doubt (entries_in r) (doubt_in r))).epoch)
  pub ready : stopped ≡ None → IsReady g r lanes

-- there is room in which the lanes are given back
pub record HasWayBack {H : Type 0} (lanes : List BookLane) (emptied : Vec H) : Type 0 where
  pub empty : emptied.items ≡ []
  pub room : length lanes ≤ vec_capacity emptied
