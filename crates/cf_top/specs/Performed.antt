-- What doing a task over an open book comes to (this project's own).
use Rattle.std.specs.Prelude.{◌≡◌, ◌≢◌, ◌⊎◌, ℕ, length, List, Some, Result, Ok, Err, IfOk, slice_get}
use Rattle.cf_disk.specs.declared.disk.Disk.{Ghosts}
use Rattle.cf_schema.specs.declared.described.Schema.{Schema}
use Rattle.cf_entry.specs.declared.status.Status.{Status}
use Rattle.cf_plan.specs.Life.{Life}
use Rattle.cf_core.specs.Theorem.{HoldsAlways}
use Rattle.cf_prepare.specs.declared.wish.Order.{Order}
use Rattle.cf_book.specs.Granting.{IsStill}
use Rattle.cf_book.specs.Lives.{DescribeLanes, StandsFor}
use Rattle.cf_book.specs.Record.{KnowsDisk, world_left}
use Rattle.cf_book.specs.State.{BookLane, BookNow, NoneOut}
use Rattle.cf_book.specs.declared.stop.StopFault.{StopFault}
use Rattle.cf_book.specs.declared.stop.StopFault.TheVariants as stop
use Rattle.cf_face.specs.declared.exit.Exit.{Exit}
use Rattle.cf_face.specs.declared.exit.Exit.TheVariants as exit
use Rattle.cf_face.specs.declared.words.Task.{Task}
use Rattle.cf_workers.specs.Driving.{IsAtRest}
use Rattle.cf_workers.specs.Leading.{IsStretch}
use Rattle.cf_top.specs.Refusals.{LibraryUse}
use Rattle.cf_workers.specs.Ordering.{HasStack, IsOrderOn, RunsOrder, number_of, schemas_in}
use Rattle.cf_top.specs.Tasks.{IsOrdered, RefusesTask, number_for}

-- the exit of a book that stopped: a lane is told by its name, where there was memory for that
abbrev pub ExitsFor : List BookLane → StopFault → Exit → Type 0
ExitsFor lanes (stop.Full length need room) e = e ≡ exit.Full length need room
ExitsFor lanes stop.DiskFault e = e ≡ exit.DiskFault
ExitsFor lanes (stop.LaneAhead place fence epoch) e =
    (e ≡ exit.NoMemory) ⊎ ((b : BookLane) × (slice_get lanes place ≡ Some b) × (e ≡ exit.LaneAhead b.lane.name fence epoch))
ExitsFor lanes stop.NoMemory e = e ≡ exit.NoMemory

-- What is ordered is driven to its end, which leaves the stack in this status; or its beginning could not be written, or the book stopped
-- later.
abbrev pub RunsTo : {D : Type 0} → Ghosts D → BookNow D → BookNow D → Order → Result Status Exit → Type 0
RunsTo g old new ordered (Ok status) = RunsOrder g old new ordered (Ok status)
RunsTo g old new ordered (Err x) = (fault : StopFault) × ExitsFor new.lanes fault x × RunsOrder g old new ordered (Err fault)

-- What a task comes to: it is refused and nothing is done, or what it orders is carried out.
abbrev pub CarriesOut : {D : Type 0} → Ghosts D → LibraryUse → BookNow D → BookNow D → List ℕ → Task → Result Status Exit → Type 0
CarriesOut g o old new name t result =
    (ordered : Order) × IsOrdered o (schemas_in old.lanes) (world_left old.entries) name t ordered × RunsTo g old new ordered result

abbrev pub DoesTask : {D : Type 0} → Ghosts D → LibraryUse → BookNow D → BookNow D → List ℕ → Task → Result Status Exit → Type 0
DoesTask g o old new name t (Ok status) = CarriesOut g o old new name t (Ok status)
DoesTask g o old new name t (Err e) =
    (RefusesTask o (schemas_in old.lanes) (world_left old.entries) name t e × IsStill old new) ⊎ CarriesOut g o old new name t (Err e)

-- No lane has a fence above the opening's epoch where the book stands for a life in which what always holds holds.
abbrev pub NeverAhead : {D : Type 0} → BookNow D → Result Status Exit → Type 0
NeverAhead old result =
    (schemas : List Schema) (life : Life) → DescribeLanes schemas old.lanes → StandsFor old life → HoldsAlways schemas life
    → (name : List ℕ) (fence epoch : ℕ) → result ≢ Err (exit.LaneAhead name fence epoch)

-- What an operation of this number, over a book at rest, leaves of it.
pub record Leaves {D : Type 0} (g : Ghosts D) (old new : BookNow D) (name : List ℕ) (number : ℕ) (result : Result Status Exit) : Type 0 where
  pub stack : HasStack new name number result
  pub stretch : IsStretch g old new
  pub never_ahead : NeverAhead old result
  pub home : NoneOut new.lanes
  pub known : KnowsDisk g new
  pub rest : IfOk result (λ status. IsAtRest g new)

-- what is ordered comes to, and what it leaves where it is of the stack of a name
pub record RunsFor {D : Type 0} (g : Ghosts D) (old new : BookNow D) (ordered : Order) (result : Result Status Exit) : Type 0 where
  pub runs : RunsTo g old new ordered result
  pub leaves : (name : List ℕ) → IsOrderOn name (world_left old.entries) ordered → Leaves g old new name (number_of ordered) result

-- what a task comes to, and what it leaves
pub record Performs {D : Type 0} (g : Ghosts D) (o : LibraryUse) (old new : BookNow D) (name : List ℕ) (t : Task)
    (result : Result Status Exit) : Type 0 where
  pub tells : DoesTask g o old new name t result
  pub leaves : Leaves g old new name (number_for (world_left old.entries) name t) result
