-- What is ordered of a book, what its beginning leaves, and what it comes to (this project's own).
use Rattle.std.specs.Prelude.{◌≡◌, ◌⊎◌, ℕ, ◌<◌, length, List, [], ◌∷◌, ◌++◌, Option, Some, Result, Ok, Err, map, ⊤}
use Rattle.cf_tree.specs.declared.source.Source.{Source}
use Rattle.cf_disk.specs.declared.disk.Disk.{Ghosts}
use Rattle.cf_schema.specs.declared.described.Schema.{Schema}
use Rattle.cf_entry.specs.declared.entry.Begun.TheVariants as begin
use Rattle.cf_entry.specs.declared.entry.Entry.{Entry}
use Rattle.cf_entry.specs.declared.entry.Entry.TheVariants as entry
use Rattle.cf_entry.specs.declared.status.Status.{Status}
use Rattle.cf_effect.specs.Begin.{source_for}
use Rattle.cf_effect.specs.World.{StackState, World, stack_at, stack_of_operation}
use Rattle.cf_effect.specs.declared.held.Held.{Held}
use Rattle.cf_next.specs.Chosen.{schemas_of}
use Rattle.cf_prepare.specs.declared.wish.Order.{Order}
use Rattle.cf_prepare.specs.declared.wish.Order.TheVariants as order
use Rattle.cf_book.specs.Beginning.{BeginsOrder, begun_by}
use Rattle.cf_book.specs.Record.{KeepsDisk, KnowsDisk, world_left}
use Rattle.cf_book.specs.State.{BookLane, BookNow, home_of}
use Rattle.cf_book.specs.declared.stop.StopFault.{StopFault}
use Rattle.cf_book.specs.declared.stop.StopFault.TheVariants as stop
use Rattle.cf_workers.specs.Counting.{AreFewIn, calls_in}
use Rattle.cf_workers.specs.declared.drive.Drove.{Drove}
use Rattle.cf_workers.specs.declared.drive.Drove.TheVariants.{Over, Stopped}
use Rattle.cf_workers.specs.Driving.{DrivesTo, EndsWith, Grows, IsAtRest}

-- the schemas of the lanes of a book, one of each type
abbrev pub schemas_in : List BookLane → List Schema
schemas_in lanes = schemas_of (map home_of lanes)

-- the last entry is an opening
abbrev pub IsJustOpened : List Entry → Type 0
IsJustOpened es = (front : List Entry) × (epoch : ℕ) × (lanes : List (List ℕ × List ℕ)) × (es ≡ front ++ entry.Opened epoch lanes ∷ [])

-- the order is of the stack of this name
abbrev pub IsOrderOn : List ℕ → World → Order → Type 0
IsOrderOn name x (order.Begin (entry.Begin number stack kind)) = stack ≡ name
IsOrderOn name x (order.Resume number) =
    (0 < number) × (s : StackState) × ◌≡◌ {A = Option (List ℕ × StackState)} (stack_of_operation number x) (Some (name, s))
IsOrderOn name x _ = ⊥

abbrev pub number_of : Order → ℕ
number_of (order.Begin e) = begun_by e
number_of (order.Review e) = 0
number_of (order.Resume number) = number

-- the entries with the beginning, if the order has one
abbrev pub with_order : List Entry → Order → List Entry
with_order es (order.Begin e) = es ++ e ∷ []
with_order es (order.Review e) = es
with_order es (order.Resume number) = es

-- The source that the operation works by, and the resources from before it: a creation and an update begin with theirs, every other
-- operation has those of its stack.
abbrev pub going_by : List ℕ → StackState → Order → Option Source
going_by name s (order.Begin (entry.Begin number stack (begin.Create source))) = Some (source_for name number source)
going_by name s (order.Begin (entry.Begin number stack (begin.Update source))) = Some (source_for name s.number source)
going_by name s _ = s.going

abbrev pub before_by : StackState → Order → List Held
before_by s (order.Begin (entry.Begin number stack (begin.Create source))) = s.held
before_by s (order.Begin (entry.Begin number stack (begin.Update source))) = s.held
before_by s _ = s.before

-- the lane that stops a book is one of its own
abbrev pub IsPlaced : List BookLane → StopFault → Type 0
IsPlaced lanes (stop.LaneAhead place fence epoch) = place < length lanes
IsPlaced lanes fault = ⊤

-- the operation is begun, or goes on, and the book is at rest then
abbrev pub WasBegun : {D : Type 0} → Ghosts D → BookNow D → BookNow D → Order → ℕ → Type 0
WasBegun g old begun ordered number =
    BeginsOrder g old begun ordered (Ok number) × (begun.lanes ≡ old.lanes) × IsAtRest g begun × KeepsDisk g old begun × Grows g old begun

-- the operation is driven to this, with few calls where the book as it was stands for a life
abbrev pub DrivesFew : {D : Type 0} → Ghosts D → ℕ → BookNow D → BookNow D → BookNow D → Drove → Type 0
DrivesFew g number old begun new drove = (tells : DrivesTo g number begun new drove) × AreFewIn old (calls_in g number begun new drove tells)

-- What is ordered is driven to its end, which leaves the stack in this status; or its beginning could not be written, or the book stopped
-- later.
abbrev pub RunsOrder : {D : Type 0} → Ghosts D → BookNow D → BookNow D → Order → Result Status StopFault → Type 0
RunsOrder {D} g old new ordered (Ok status) =
    (number : ℕ) × (begun : BookNow D) × WasBegun g old begun ordered number × DrivesFew g number old begun new (Over status)
RunsOrder {D} g old new ordered (Err fault) =
    (BeginsOrder g old new ordered (Err fault) × (new.lanes ≡ old.lanes) × KnowsDisk g new)
    ⊎ ((number : ℕ) × (begun : BookNow D) × WasBegun g old begun ordered number × DrivesFew g number old begun new (Stopped fault))

-- The stack is there, and its operation, of this number, has ended in this status: its end is the last entry.
pub record IsEnded {D : Type 0} (new : BookNow D) (name : List ℕ) (number : ℕ) (status : Status) : Type 0 where
  pub stack : StackState
  pub here : stack_at name (world_left new.entries) ≡ Some stack
  pub status_is : stack.status ≡ status
  pub number_is : stack.operation ≡ number
  pub last : EndsWith new.entries number status

abbrev pub HasStack : {D E : Type 0} → BookNow D → List ℕ → ℕ → Result Status E → Type 0
HasStack new name number (Ok status) = IsEnded new name number status
HasStack new name number (Err e) = ⊤
