-- Which events of an engine's life a run over a book is (this project's own).
use Rattle.std.specs.Prelude.{◌≡◌, ◌≢◌, ◌<◌, ◌^◌, false, ℕ, List, length, Option, Some, None, map}
use Rattle.cf_tree.specs.Lists.{is_among}
use Rattle.cf_disk.specs.declared.disk.Disk.{Ghosts}
use Rattle.cf_entry.specs.declared.entry.Entry.{Entry}
use Rattle.cf_schema.specs.declared.described.Schema.{Schema}
use Rattle.cf_plan.specs.Lanes.{Lane, lane_at}
use Rattle.cf_plan.specs.Life.{Event, IsLife, Life}
use Rattle.cf_core.specs.Theorem.{HoldsAlways}
use Rattle.cf_book.specs.Lives.{AreEntriesOf, DescribeLanes, StandsFor}
use Rattle.cf_book.specs.Record.{KeepsDisk}
use Rattle.cf_book.specs.State.{BookNow}
use Rattle.cf_book.specs.declared.stop.StopFault.{StopFault}
use Rattle.cf_book.specs.declared.stop.StopFault.TheVariants as stop
use Rattle.cf_workers.specs.Counting.{AreFewIn, calls_in}
use Rattle.cf_workers.specs.Growing.{Extends}
use Rattle.cf_workers.specs.Driving.{AreSameLanes, Course, DrivesTo, Grows, RoundTells, TellsCalls, names_of}
use Rattle.cf_workers.specs.declared.drive.Drove.{Drove}
use Rattle.cf_workers.specs.declared.drive.Drove.TheVariants.{Stopped}

-- the lanes are those that there were, and of these names alone may one have changed
pub record KeepOthers (names : List (List ℕ)) (old new : List Lane) : Type 0 where
  pub same_names : map (λ l. l.name) new ≡ map (λ l. l.name) old
  pub others : (name : List ℕ) → is_among name names ≡ false → lane_at name new ≡ lane_at name old

-- these events lead to a life that the book stands for, with this record of the disk; lanes that the book does not have stay as they are
pub record LeadsWith {D : Type 0} (schemas : List Schema) (life : Life) (b : BookNow D) (es : List Entry) : Type 0 where
  pub events : List Event
  pub after : Life
  pub happen : IsLife schemas life events after
  pub stands : StandsFor b after
  pub record_is : after.entries ≡ es
  pub keeps : KeepOthers (names_of b.lanes) life.lanes after.lanes

-- Of every life that the first book stands for, in which what holds always holds: for each record that the disk may have by then there are
-- events that lead to a life with it.
abbrev pub LeadsOn : {D : Type 0} → BookNow D → BookNow D → Type 0
LeadsOn old new =
    (schemas : List Schema) (life : Life) → DescribeLanes schemas old.lanes → StandsFor old life → HoldsAlways schemas life
    → (es : List Entry) → AreEntriesOf new es → LeadsWith schemas life new es

-- A stretch of a run: its events, what a crash leaves during it, the entries that it appends, the disk and the lanes.
pub record IsStretch {D : Type 0} (g : Ghosts D) (old new : BookNow D) : Type 0 where
  pub leads : LeadsOn old new
  pub grows : Grows g old new
  pub grown : Extends old.entries new.entries
  pub disk : KeepsDisk g old new
  pub lanes : AreSameLanes old.lanes new.lanes

-- No lane has a fence above the opening's epoch where the book stands for a life in which what always holds holds.
abbrev pub IsNeverOld : {D : Type 0} → BookNow D → Drove → Type 0
IsNeverOld old drove =
    (schemas : List Schema) (life : Life) → DescribeLanes schemas old.lanes → StandsFor old life → HoldsAlways schemas life
    → (place fence epoch : ℕ) → drove ≢ Stopped (stop.LaneAhead place fence epoch)

-- a run over a book that has not stopped
pub record Drives {D : Type 0} (g : Ghosts D) (number : ℕ) (old new : BookNow D) (drove : Drove) : Type 0 where
  pub tells : DrivesTo g number old new drove
  pub stretch : IsStretch g old new
  pub never_old : IsNeverOld old drove
  pub calls : (last : BookNow D) (course : Course g number old last) → TellsCalls course
  pub few : AreFewIn old (calls_in g number old new drove tells)

-- A run over a stopped book comes to what stopped it, and does nothing.
abbrev pub DrivesAs : {D : Type 0} → Ghosts D → ℕ → BookNow D → BookNow D → Option StopFault → Drove → Type 0
DrivesAs g number old new None drove = Drives g number old new drove
DrivesAs g number old new (Some fault) drove = (drove ≡ Stopped fault) × (new ≡ old)

-- One round of a run, after which it goes on, or what it comes to in it. There are fewer entries than a count can tell.
pub record GoesOn {D : Type 0} (g : Ghosts D) (number : ℕ) (old new : BookNow D) (result : Option Drove) : Type 0 where
  pub tells : RoundTells g number old new result
  pub stretch : IsStretch g old new
  pub bounded : length old.entries < 2 ^ 64
