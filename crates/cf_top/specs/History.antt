-- A history: commands one after another, over some lanes each, with crashes between them and effects that come late (this project's own).
use Rattle.std.specs.Prelude.{◌≡◌, List, [], ◌∷◌, ℕ, Some, Ok, IsTrue, map}
use Rattle.cf_tree.specs.Lists.{In}
use Rattle.cf_disk.specs.Disk.{Only}
use Rattle.cf_disk.specs.declared.disk.Disk.{Ghosts as DiskGhosts}
use Rattle.cf_handler.specs.declared.handler.Handler.{Ghosts as HandlerGhosts}
use Rattle.cf_handler.specs.declared.settled.Settlement.{Settlement}
use Rattle.cf_handler.specs.Fence.{LateMove, late_by}
use Rattle.cf_schema.specs.declared.described.Schema.{Schema}
use Rattle.cf_journal.specs.Record.{record_of}
use Rattle.cf_plan.specs.Lanes.{Lane, lane_at}
use Rattle.cf_plan.specs.Life.{IsStart, changed}
use Rattle.cf_book.specs.Fences.{handed_in}
use Rattle.cf_face.specs.declared.exit.Exit.{Exit}
use Rattle.cf_workers.specs.Agreement.{AreAmong, EachAgrees, all_as_told, at_rest}
use Rattle.cf_top.specs.Answer.{RanAs}
use Rattle.cf_top.specs.Outside.{Printing}
use Rattle.cf_top.specs.Refusals.{LibraryUse}

-- the disk, and all the lanes that there are
pub record Moment (D : Type 0) : Type 0 where
  pub disk : D
  pub all : List Lane

-- after a crash there is a file that the crash might leave, and no other crash will leave another one
pub record IsAfterCrash {D : Type 0} (g : DiskGhosts D) (old new : D) : Type 0 where
  pub file : List ℕ
  pub left : g.may_leave old file
  pub stays : Only file (g.may_leave new)

-- A command: its words, what it met and printed, and its exit. Of them is all that `cfstack` says of its answers.
pub record IsCommand {D H : Type 0} (g : DiskGhosts D) (h : HandlerGhosts H) (disk disk' : D) (handlers handlers' : List H) : Type 0 where
  pub words : List (List ℕ)
  pub library : LibraryUse
  pub printing : Printing
  pub exit : Exit
  pub ran :
      RanAs g h (record { library = library; disk = disk; disk' = disk'; handlers = handlers; handlers' = handlers' }) printing words exit

-- What comes next: a command over some of the lanes, which leaves the others as they are; a crash; a call that acts late.
pub data Passes {D H : Type 0} (g : DiskGhosts D) (h : HandlerGhosts H) (schemas : List Schema) (m n : Moment D) : Type 0 where
  command :
      (handlers handlers' : List H) → AreAmong h schemas handlers m.all → IsCommand g h m.disk n.disk handlers handlers'
      → n.all ≡ all_as_told (handed_in h handlers') m.all → Passes g h schemas m n
  crash : IsAfterCrash g m.disk n.disk → n.all ≡ m.all → Passes g h schemas m n
  late :
      (lane : Lane) (place : ℕ) (settlement : Settlement) → lane_at lane.name m.all ≡ Some lane
      → LateMove lane.name lane.state (late_by place settlement lane.state) place settlement → n.disk ≡ m.disk
      → n.all ≡ map (changed lane.name (late_by place settlement)) m.all → Passes g h schemas m n

abbrev pub IsHistory : {D H : Type 0} → DiskGhosts D → HandlerGhosts H → List Schema → Moment D → List (Moment D) → Type 0
IsHistory g h schemas m [] = Unit {0}
IsHistory g h schemas m (n ∷ later) = Passes g h schemas m n × IsHistory g h schemas n later

-- a new journal over lanes on which nothing was ever called
pub record IsNewJournal {D : Type 0} (g : DiskGhosts D) (schemas : List Schema) (m : Moment D) : Type 0 where
  pub empty : (file : List ℕ) → g.may_leave m.disk file → record_of file ≡ Ok []
  pub start : IsStart schemas (at_rest [] m.all)

-- What agrees once agrees ever after, and from a new journal on it does.
abbrev pub HistoriesAgree : {D H : Type 0} → DiskGhosts D → HandlerGhosts H → Type 0
HistoriesAgree {D} g h =
    IsTrue g.tells → (schemas : List Schema) (first : Moment D) (later : List (Moment D))
    → EachAgrees schemas (g.may_leave first.disk) first.all → IsHistory g h schemas first later
    → (m : Moment D) → In m later → EachAgrees schemas (g.may_leave m.disk) m.all

abbrev pub NewAgrees : {D : Type 0} → DiskGhosts D → Type 0
NewAgrees {D} g = (schemas : List Schema) (m : Moment D) → IsNewJournal g schemas m → EachAgrees schemas (g.may_leave m.disk) m.all
