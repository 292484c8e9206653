-- How a book is made, and which events of a life that is (this project's own).
use Rattle.std.specs.Prelude.{◌≡◌, ◌⊎◌, ℕ, zero, suc, ◌+◌, ◌<◌, Bool, true, false, List, [], ◌∷◌, ◌++◌, None, Some, Result, Ok, Err, IsTrue, map, slice_get}
use Rattle.std.specs.List.{list_all}
use Rattle.std.specs.Str.{bytes_eq}
use Rattle.cf_tree.specs.Counts.{HasRisen}
use Rattle.cf_tree.specs.Named.{all_differ}
use Rattle.cf_disk.specs.Disk.{LeavesOnly}
use Rattle.cf_disk.specs.declared.disk.Disk.{Ghosts as DiskGhosts}
use Rattle.cf_entry.specs.declared.entry.Entry.{Entry}
use Rattle.cf_handler.specs.declared.fence.FenceAnswer.{FenceAnswer}
use Rattle.cf_handler.specs.declared.fence.FenceAnswer.TheVariants as fence
use Rattle.cf_handler.specs.declared.handler.Handler.{Ghosts as HandlerGhosts}
use Rattle.cf_handler.specs.Name.{is_lane_name}
use Rattle.cf_handler.specs.Tells.{LateEffect}
use Rattle.cf_journal.specs.Record.{IsOldOrKept, KeepsRecord, length_of, record_of}
use Rattle.cf_journal.specs.declared.faults.RecoverFault.{RecoverFault}
use Rattle.cf_journal.specs.declared.faults.RecoverFault.TheVariants as recover
use Rattle.cf_lane.specs.Lanes.{LaneNow}
use Rattle.cf_schema.specs.declared.described.Schema.{Schema}
use Rattle.cf_plan.specs.Follow.{MayOpen}
use Rattle.cf_plan.specs.Life.{BrokenWith, BrokenWithout, Close, Event, IsLife, Life, Opened, Raise, Whole}
use Rattle.cf_core.specs.Theorem.{HoldsAlways}
use Rattle.cf_book.specs.Events.{late_on}
use Rattle.cf_book.specs.Fences.{EachRaised, StopsRaising, handed_in}
use Rattle.cf_book.specs.Lives.{AreLanesOf, LeadsTo}
use Rattle.cf_book.specs.Opening.{IsFirstMissing, LaneName, named_by, opening, twice}
use Rattle.cf_book.specs.Record.{Fits, IsKnown, need_of, world_left}
use Rattle.cf_book.specs.State.{BookNow, at_home}
use Rattle.cf_book.specs.declared.refused.EnterFault.{EnterFault}
use Rattle.cf_book.specs.declared.refused.EnterFault.TheVariants as fault
use Rattle.cf_book.specs.declared.refused.Refused.{Refused}

-- why no journal was found
abbrev pub recovering : RecoverFault → EnterFault
recovering (recover.NotAJournal offset) = fault.NotAJournal offset
recovering recover.DiskFault = fault.DiskFault
recovering recover.NoMemory = fault.NoMemory

-- how an opening names the lanes, its number, and its entry, over these entries
abbrev pub names_of : List LaneNow → List LaneName
names_of lanes = map named_by lanes

abbrev pub epoch_over : List Entry → ℕ
epoch_over es = (world_left es).epoch + 1

abbrev pub opened_over : List LaneNow → List Entry → Entry
opened_over lanes es = opening (names_of lanes) (world_left es)

-- The disk has this record, and a book may be made over these lanes: each has the name of a lane, no two have one name, and the lanes of
-- all resources and open calls are among them.
pub record MayEnter {D : Type 0} (g : DiskGhosts D) (disk : D) (lanes : List LaneNow) (es : List Entry) : Type 0 where
  pub found : IsTrue g.tells → record_of (g.seen disk) ≡ Ok es
  pub named : list_all (λ l. is_lane_name l.name) lanes ≡ true
  pub differ : all_differ bytes_eq (map (λ l. l.name) lanes) ≡ true
  pub may : MayOpen (world_left es) [] (epoch_over es) (names_of lanes)

-- Before the opening a life has the entries of the record and the lanes as they are handed in, and no book is open.
pub record IsBefore (es : List Entry) (lanes : List LaneNow) (life : Life) : Type 0 where
  pub entries : life.entries ≡ es
  pub lanes_are : AreLanesOf (map at_home lanes) life.lanes
  pub closed : life.is_open ≡ false

-- Of no life in which journal and lanes have always agreed are these the entries and the lanes: in such a life no fence is above the last
-- epoch.
abbrev pub NeverHeld : List Entry → List LaneNow → Type 0
NeverHeld es lanes = (schemas : List Schema) (life : Life) → IsBefore es lanes life → HoldsAlways schemas life → ⊥

-- the raising of a lane's fence, as events: late effects that it met, and then it
pub record IsRaising (before after : LaneNow) (a : FenceAnswer) (events : List Event) : Type 0 where
  pub effects : List LateEffect
  pub moved : Bool
  pub are : events ≡ map (late_on before.name) effects ++ Raise before.name a moved before.count after.count ∷ []

-- that of one lane after another, each raised
abbrev pub AreRaisings : List LaneNow → List LaneNow → List Event → Type 0
AreRaisings [] [] events = events ≡ []
AreRaisings (b ∷ bs) (a ∷ more) events =
    (one rest : List Event) × IsRaising b a fence.Raised one × AreRaisings bs more rest × (events ≡ one ++ rest)
AreRaisings _ _ events = ⊥

-- and up to the one at this place, which answers so
abbrev pub AreRaisingsTo : List LaneNow → List LaneNow → ℕ → FenceAnswer → List Event → Type 0
AreRaisingsTo (b ∷ bs) (a ∷ more) zero x events = IsRaising b a x events
AreRaisingsTo (b ∷ bs) (a ∷ more) (suc n) x events =
    (one rest : List Event) × IsRaising b a fence.Raised one × AreRaisingsTo bs more n x rest × (events ≡ one ++ rest)
AreRaisingsTo _ _ n x events = ⊥

-- The opening is appended, each fence is raised, and the book is open.
pub record IsEntered {D : Type 0} (es : List Entry) (lanes : List LaneNow) (b : BookNow D) : Type 0 where
  pub raised : List LaneNow
  pub entries : b.entries ≡ es ++ opened_over lanes es ∷ []
  pub certain : b.doubt ≡ None
  pub fences : EachRaised lanes raised (epoch_over es)
  pub lanes_are : b.lanes ≡ map at_home raised
  pub ungranted : b.has_granted ≡ false
  pub running : b.stopped ≡ None
  pub leads : (schemas : List Schema) (life : Life) → IsBefore es lanes life
      → (raisings : List Event) × AreRaisings lanes raised raisings
      × LeadsTo schemas life (Opened (epoch_over es) (names_of lanes) Whole ∷ raisings) b

-- The opening is appended, and the fence of the lane at this place answers so: the book is closed again.
pub record IsUnraised {D : Type 0} (g : DiskGhosts D) (es : List Entry) (lanes after : List LaneNow) (disk : D) (name : List ℕ)
    (a : FenceAnswer)
    : Type 0 where
  pub place : ℕ
  pub lane : LaneNow
  pub at : slice_get lanes place ≡ Some lane
  pub named : lane.name ≡ name
  pub fences : StopsRaising lanes after place (epoch_over es) a
  pub known : IsKnown g disk (es ++ opened_over lanes es ∷ []) None
  pub leads : (schemas : List Schema) (life : Life) → IsBefore es lanes life
      → (raisings : List Event) × AreRaisingsTo lanes after place a raisings
      × (end : Life) × IsLife schemas life (Opened (epoch_over es) (names_of lanes) Whole ∷ raisings ++ Close ∷ []) end
      × IsBefore (es ++ opened_over lanes es ∷ []) after end

-- The disk failed as the opening was appended, and may have it.
pub record IsBroken {D : Type 0} (g : DiskGhosts D) (es : List Entry) (lanes : List LaneNow) (disk : D) : Type 0 where
  pub known : IsKnown g disk es (Some (opened_over lanes es))
  pub leads_with : (schemas : List Schema) (life : Life) → IsBefore es lanes life
      → (end : Life) × IsLife schemas life (Opened (epoch_over es) (names_of lanes) BrokenWith ∷ Close ∷ []) end
      × IsBefore (es ++ opened_over lanes es ∷ []) lanes end
  pub leads_without : (schemas : List Schema) (life : Life) → IsBefore es lanes life
      → (end : Life) × IsLife schemas life (Opened (epoch_over es) (names_of lanes) BrokenWithout ∷ Close ∷ []) end × IsBefore es lanes end

-- Nothing is appended, and nothing is asked of the lanes: no event. A crash, at any moment of the call or after it, leaves what it might
-- have left before, or a file that keeps the record.
pub record IsUntouched {D H : Type 0} (g : DiskGhosts D) (disk disk' : D) (lanes lanes' : List H) : Type 0 where
  pub disk_keeps : IsTrue g.tells → KeepsRecord (g.seen disk) (g.seen disk')
  pub each : IsTrue g.tells → (file : List ℕ) → g.may_leave disk' file → IsOldOrKept (g.may_leave disk) (g.seen disk) file
  pub moments : IsTrue g.tells → LeavesOnly g.moment g.left_since disk disk' (IsOldOrKept (g.may_leave disk) (g.seen disk))
  pub lanes_keep : lanes' ≡ lanes

-- A book may be made over the record, and the disk has room for the opening.
abbrev pub MayOpenOn : {D : Type 0} → DiskGhosts D → D → List LaneNow → List Entry → Type 0
MayOpenOn g disk lanes es = MayEnter g disk lanes es × Fits g disk (opened_over lanes es)

-- Why a book is not entered, and what stands then. Memory may be missing at any time.
abbrev pub RefusesAs : {D H : Type 0} → DiskGhosts D → HandlerGhosts H → D → List H → D → List H → EnterFault → Type 0
RefusesAs g h disk lanes disk' lanes' (fault.NotAJournal offset) =
    IsUntouched g disk disk' lanes lanes' × (IsTrue g.tells → record_of (g.seen disk) ≡ Err offset)
RefusesAs g h disk lanes disk' lanes' fault.DiskFault =
    HasRisen (g.count disk) (g.count disk')
    × (IsUntouched g disk disk' lanes lanes'
    ⊎ ((lanes' ≡ lanes) × (es : List Entry) × MayOpenOn g disk (handed_in h lanes) es × IsBroken g es (handed_in h lanes) disk'))
RefusesAs g h disk lanes disk' lanes' (fault.LaneTwice name) =
    IsUntouched g disk disk' lanes lanes' × (twice (names_of (handed_in h lanes)) ≡ Some name)
    × (es : List Entry) × (IsTrue g.tells → record_of (g.seen disk) ≡ Ok es)
RefusesAs g h disk lanes disk' lanes' (fault.LaneMissing name) =
    IsUntouched g disk disk' lanes lanes' × (twice (names_of (handed_in h lanes)) ≡ None)
    × (es : List Entry) × (IsTrue g.tells → record_of (g.seen disk) ≡ Ok es)
    × IsFirstMissing (names_of (handed_in h lanes)) (world_left es) name
RefusesAs g h disk lanes disk' lanes' (fault.Full length need room) =
    IsUntouched g disk disk' lanes lanes'
    × (es : List Entry) × MayEnter g disk (handed_in h lanes) es × (IsTrue g.tells → length_of (g.seen disk) ≡ length)
    × (need ≡ need_of (opened_over (handed_in h lanes) es)) × (room ≡ g.room_of disk) × (room < length + need)
RefusesAs g h disk lanes disk' lanes' (fault.LaneAhead name stands epoch) =
    (es : List Entry) × MayOpenOn g disk (handed_in h lanes) es × (epoch ≡ epoch_over es)
    × IsUnraised g es (handed_in h lanes) (handed_in h lanes') disk' name (fence.Ahead stands) × NeverHeld es (handed_in h lanes)
RefusesAs g h disk lanes disk' lanes' (fault.LaneFault name) =
    (es : List Entry) × MayOpenOn g disk (handed_in h lanes) es
    × IsUnraised g es (handed_in h lanes) (handed_in h lanes') disk' name fence.Fault
RefusesAs g h disk lanes disk' lanes' fault.NoMemory = IsUntouched g disk disk' lanes lanes'

-- A book is entered, or it is not.
abbrev pub EntersAs : {D H : Type 0} → DiskGhosts D → HandlerGhosts H → D → List H → Result (BookNow D) (Refused D H) → Type 0
EntersAs g h disk lanes (Ok b) = (es : List Entry) × MayOpenOn g disk (handed_in h lanes) es × IsEntered es (handed_in h lanes) b
EntersAs g h disk lanes (Err r) = RefusesAs g h disk lanes r.disk r.lanes.items r.fault

-- these bytes have the record, or the one with this entry
abbrev pub LeavesEither : List Entry → Entry → List ℕ → Type 0
LeavesEither es e bytes = (record_of bytes ≡ Ok es) ⊎ (record_of bytes ≡ Ok (es ++ e ∷ []))

-- At each moment a crash leaves what it might have left before, or a file that keeps the record; or, where there is one, the record, with
-- the opening or without it.
abbrev pub LeavesOpening : {D : Type 0} → DiskGhosts D → D → List LaneNow → List ℕ → Type 0
LeavesOpening g disk lanes bytes =
    IsOldOrKept (g.may_leave disk) (g.seen disk) bytes
    ⊎ ((es : List Entry) × (record_of (g.seen disk) ≡ Ok es) × LeavesEither es (opened_over lanes es) bytes)

abbrev pub disk_after : {D H : Type 0} → Result (BookNow D) (Refused D H) → D
disk_after (Ok b) = b.disk
disk_after (Err r) = r.disk
