-- What making a book comes to, step by step (this project's own). No public definition rests on this.
use Rattle.std.specs.Prelude.{◌≡◌, ◌⊎◌, ℕ, ◌+◌, ◌<◌, ◌≤◌, true, false, List, [], ◌∷◌, ◌++◌, None, Some, Result, Ok, Err, IsTrue, map, length, slice_get, vec_capacity}
use Rattle.std.specs.List.{list_all}
use Rattle.std.specs.Str.{bytes_eq}
use Rattle.std.specs.declared.snapshot.Snapshot.{Snapshot}
use Rattle.cf_tree.specs.Named.{all_differ}
use Rattle.cf_tree.specs.Counts.{HasRisen}
use Rattle.cf_disk.specs.Disk.{LeavesOnly}
use Rattle.cf_disk.specs.declared.disk.Disk.{Ghosts as DiskGhosts}
use Rattle.cf_entry.specs.declared.entry.Entry.{Entry}
use Rattle.cf_handler.specs.declared.fence.FenceAnswer.{FenceAnswer}
use Rattle.cf_handler.specs.declared.fence.FenceAnswer.TheVariants as fence
use Rattle.cf_handler.specs.declared.handler.Handler.{Ghosts as HandlerGhosts}
use Rattle.cf_handler.specs.Name.{is_lane_name}
use Rattle.cf_journal.specs.Record.{IsOldOrKept, KeepsRecord, Stands, is_broken, journal_length, length_of, record_of, spare_of}
use Rattle.cf_journal.specs.declared.journal.Journal.{Journal}
use Rattle.cf_lane.specs.Lanes.{LaneNow}
use Rattle.cf_effect.specs.World.{World}
use Rattle.cf_next.specs.declared.home.Home.{Home}
use Rattle.cf_stacks.specs.Apart.{AreApart}
use Rattle.cf_book.specs.Entering.{epoch_over, names_of, opened_over}
use Rattle.cf_book.specs.Fences.{EachRaised, StopsRaising, handed_in}
use Rattle.cf_book.specs.Inside.{IsOpen, entries_in}
use Rattle.cf_book.specs.Opening.{AreComplete, IsFirstMissing, opening, twice}
use Rattle.cf_book.specs.Record.{Fits, HasFaulted, IsKnown, KeepsRoom, need_of, world_left}
use Rattle.cf_book.specs.State.{BookNow, at_home, home_of}
use Rattle.cf_book.specs.declared.entering.Found.{Found}
use Rattle.cf_book.specs.declared.entering.Room.{Room}
use Rattle.cf_book.specs.declared.record.Record.{Record}
use Rattle.cf_book.specs.declared.refused.EnterFault.{EnterFault}
use Rattle.cf_book.specs.declared.refused.EnterFault.TheVariants as fault
use Rattle.cf_book.specs.declared.refused.Refused.{Refused}
use Rattle.cf_book.specs.declared.stop.StopFault.{StopFault}
use Rattle.cf_book.specs.declared.stop.StopFault.TheVariants as stop

-- the entries that are kept for contracts
abbrev pub entries_of : List (Snapshot Entry) → List Entry
entries_of kept = map (λ e. e.value) kept

-- lanes that are handed in, as a book names them
abbrev pub homes_in : List LaneNow → List Home
homes_in lanes = map (λ l. home_of (at_home l)) lanes

-- a journal laid out: the entries and their world, each operation of one stack, and room for an outcome
pub record IsLaid (journal : Journal) (es : List Entry) (f : Found) : Type 0 where
  pub entries : entries_of f.entries.items ≡ es
  pub world : f.world.world ≡ world_left es
  pub apart : AreApart f.world.world
  pub spare : 525350 ≤ spare_of f.journal
  pub same_length : journal_length f.journal ≡ journal_length journal
  pub sound : is_broken f.journal ≡ is_broken journal

-- what was found stands for the disk
pub record IsFoundOn {D : Type 0} (g : DiskGhosts D) (disk : D) (f : Found) : Type 0 where
  pub stands : Stands g.tells g.seen g.may_leave g.room_of f.journal disk
  pub holds : IsTrue g.tells → record_of (g.seen disk) ≡ Ok (entries_of f.entries.items)
  pub world : f.world.world ≡ world_left (entries_of f.entries.items)
  pub apart : AreApart f.world.world
  pub spare : 525350 ≤ spare_of f.journal

-- why nothing was found
abbrev pub RefusesDisk : {D : Type 0} → DiskGhosts D → D → D → EnterFault → Type 0
RefusesDisk g disk disk' (fault.NotAJournal offset) = IsTrue g.tells → record_of (g.seen disk) ≡ Err offset
RefusesDisk g disk disk' fault.DiskFault = HasRisen (g.count disk) (g.count disk')
RefusesDisk g disk disk' fault.NoMemory = Unit {0}
RefusesDisk g disk disk' _ = ⊥

-- the record is kept, also after a crash at any moment
pub record KeepsJournal {D : Type 0} (g : DiskGhosts D) (disk disk' : D) : Type 0 where
  pub record_keeps : IsTrue g.tells → KeepsRecord (g.seen disk) (g.seen disk')
  pub moments : IsTrue g.tells → LeavesOnly g.moment g.left_since disk disk' (IsOldOrKept (g.may_leave disk) (g.seen disk))
  pub keeps : KeepsRoom g disk disk'

abbrev pub FindsAs : {D : Type 0} → DiskGhosts D → D → D → Result Found EnterFault → Type 0
FindsAs g disk disk' (Ok f) = KeepsJournal g disk disk' × IsFoundOn g disk' f
FindsAs g disk disk' (Err x) = KeepsJournal g disk disk' × RefusesDisk g disk disk' x

-- a book may be made over these lanes
pub record AreLanesFor (lanes : List LaneNow) (x : World) : Type 0 where
  pub named : list_all (λ l. is_lane_name l.name) lanes ≡ true
  pub complete : AreComplete (names_of lanes) x

-- why none may be
abbrev pub RefusesHanded : List LaneNow → World → EnterFault → Type 0
RefusesHanded lanes x (fault.LaneTwice name) = twice (names_of lanes) ≡ Some name
RefusesHanded lanes x (fault.LaneMissing name) = (twice (names_of lanes) ≡ None) × IsFirstMissing (names_of lanes) x name
RefusesHanded lanes x fault.NoMemory = Unit {0}
RefusesHanded lanes x _ = ⊥

-- there is room for these lanes
pub record HasRoomFor {H : Type 0} (room : Room H) (lanes : List LaneNow) : Type 0 where
  pub homes_are : room.homes ≡ homes_in lanes
  pub none_placed : room.places.items ≡ []
  pub places_room : length lanes ≤ vec_capacity room.places
  pub empty : room.emptied.items ≡ []
  pub way_back : length lanes ≤ vec_capacity room.emptied
  pub differ : all_differ bytes_eq (map (λ l. l.name) lanes) ≡ true

abbrev pub PreparesAs : {H : Type 0} → World → List LaneNow → Result (Room H × Entry) EnterFault → Type 0
PreparesAs x lanes (Ok p) = AreLanesFor lanes x × (p.1 ≡ opening (names_of lanes) x) × HasRoomFor p.0 lanes
PreparesAs x lanes (Err f) = RefusesHanded lanes x f

-- a record that is open, with all that a book keeps of it
pub record IsReadyRecord {D : Type 0} (g : DiskGhosts D) (r : Record D) : Type 0 where
  pub opened : IsOpen g r
  pub world : r.world.world ≡ world_left (entries_in r)
  pub apart : AreApart r.world.world
  pub spare : 525350 ≤ spare_of r.journal

-- which answers of a record there are, and what is answered of them
abbrev pub IsOfRecord : StopFault → Type 0
IsOfRecord (stop.LaneAhead lane fence epoch) = ⊥
IsOfRecord _ = Unit {0}

abbrev pub unwritten : StopFault → EnterFault
unwritten (stop.Full length need room) = fault.Full length need room
unwritten stop.DiskFault = fault.DiskFault
unwritten _ = fault.NoMemory

abbrev pub IsUnraisedBy : List ℕ → ℕ → FenceAnswer → EnterFault → Type 0
IsUnraisedBy name epoch a (fault.LaneAhead n f e) = (n ≡ name) × (e ≡ epoch) × (a ≡ fence.Ahead f)
IsUnraisedBy name epoch a (fault.LaneFault n) = (n ≡ name) × (a ≡ fence.Fault)
IsUnraisedBy name epoch a _ = ⊥

-- the fences are raised up to this place, whose lane has this name
pub record StopsAtLane (lanes after : List LaneNow) (epoch : ℕ) (f : EnterFault) : Type 0 where
  pub place : ℕ
  pub lane : LaneNow
  pub answer : FenceAnswer
  pub at : slice_get lanes place ≡ Some lane
  pub fences : StopsRaising lanes after place epoch answer
  pub why : IsUnraisedBy lane.name epoch answer f

-- the book of a record, all fences of whose lanes are raised
pub record IsRaisedBook {D : Type 0} (disk : D) (es : List Entry) (lanes : List LaneNow) (epoch : ℕ) (b : BookNow D) : Type 0 where
  pub raised : List LaneNow
  pub fences : EachRaised lanes raised epoch
  pub lanes_are : b.lanes ≡ map at_home raised
  pub disk_is : b.disk ≡ disk
  pub entries : b.entries ≡ es
  pub certain : b.doubt ≡ None
  pub ungranted : b.has_granted ≡ false
  pub running : b.stopped ≡ None

abbrev pub RaisesIn : {D H : Type 0} → DiskGhosts D → HandlerGhosts H → Record D → List H → Result (BookNow D) (Refused D H) → Type 0
RaisesIn g h r lanes (Ok b) = IsRaisedBook r.disk (entries_in r) (handed_in h lanes) r.world.world.epoch b
RaisesIn g h r lanes (Err x) =
    (x.disk ≡ r.disk) × StopsAtLane (handed_in h lanes) (handed_in h x.lanes.items) r.world.world.epoch x.fault

-- why a record has no book over these lanes; where the opening was written, the disk has room for it
abbrev pub RefusesOpening : {D H : Type 0} → DiskGhosts D → HandlerGhosts H → D → List Entry → Entry → List H → D → List H → EnterFault
    → Type 0
RefusesOpening g h disk es e lanes disk' lanes' (fault.Full long need room) =
    (disk' ≡ disk) × (lanes' ≡ lanes) × (IsTrue g.tells → length_of (g.seen disk) ≡ long) × (need ≡ need_of e) × (room ≡ g.room_of disk)
    × (room < long + need)
RefusesOpening g h disk es e lanes disk' lanes' fault.DiskFault =
    (lanes' ≡ lanes) × HasFaulted (g.count disk) (g.count disk') × IsKnown g disk' es (Some e) × Fits g disk e
RefusesOpening g h disk es e lanes disk' lanes' fault.NoMemory = (disk' ≡ disk) × (lanes' ≡ lanes)
RefusesOpening g h disk es e lanes disk' lanes' (fault.LaneAhead name f epoch) =
    IsKnown g disk' (es ++ e ∷ []) None × Fits g disk e
    × StopsAtLane (handed_in h lanes) (handed_in h lanes') (epoch_over es) (fault.LaneAhead name f epoch)
RefusesOpening g h disk es e lanes disk' lanes' (fault.LaneFault name) =
    IsKnown g disk' (es ++ e ∷ []) None × Fits g disk e
    × StopsAtLane (handed_in h lanes) (handed_in h lanes') (epoch_over es) (fault.LaneFault name)
RefusesOpening g h disk es e lanes disk' lanes' _ = ⊥

abbrev pub OpensOn : {D H : Type 0} → DiskGhosts D → HandlerGhosts H → D → List Entry → Entry → List H
    → Result (BookNow D) (Refused D H) → Type 0
OpensOn {D = D} g h disk es e lanes (Ok b) =
    Fits g disk e × (disk' : D) × IsRaisedBook disk' (es ++ e ∷ []) (handed_in h lanes) (epoch_over es) b
OpensOn g h disk es e lanes (Err x) = RefusesOpening g h disk es e lanes x.disk x.lanes.items x.fault

-- the lanes are refused, or the record is opened over them or not
abbrev pub RefusesOver : {D H : Type 0} → DiskGhosts D → HandlerGhosts H → D → List Entry → List H → D → List H → EnterFault → Type 0
RefusesOver g h disk es lanes disk' lanes' f =
    ((disk' ≡ disk) × (lanes' ≡ lanes) × RefusesHanded (handed_in h lanes) (world_left es) f)
    ⊎ (AreLanesFor (handed_in h lanes) (world_left es)
    × RefusesOpening g h disk es (opened_over (handed_in h lanes) es) lanes disk' lanes' f)

abbrev pub EntersOver : {D H : Type 0} → DiskGhosts D → HandlerGhosts H → D → List H → List Entry
    → Result (BookNow D) (Refused D H) → Type 0
EntersOver {D = D} g h disk lanes es (Ok b) =
    AreLanesFor (handed_in h lanes) (world_left es) × OpensOn g h disk es (opened_over (handed_in h lanes) es) lanes (Ok b)
EntersOver g h disk lanes es (Err x) = RefusesOver g h disk es lanes x.disk x.lanes.items x.fault
