-- How an operation begins, and which events of a life that is (this project's own).
use Rattle.std.specs.Prelude.{◌≡◌, ℕ, List, [], ◌∷◌, Option, Some, None, Result, Ok, Err, IfOk}
use Rattle.cf_disk.specs.declared.disk.Disk.{Ghosts}
use Rattle.cf_schema.specs.declared.described.Schema.{Schema}
use Rattle.cf_entry.specs.Entry.{IsProper}
use Rattle.cf_entry.specs.declared.entry.Entry.{Entry}
use Rattle.cf_entry.specs.declared.entry.Entry.TheVariants as entry
use Rattle.cf_effect.specs.World.{World}
use Rattle.cf_plan.specs.Follow.{MayFollow}
use Rattle.cf_plan.specs.Life.{Begin, End, IsBegin, Life}
use Rattle.cf_next.specs.Chosen.{IsInProgress}
use Rattle.cf_prepare.specs.declared.wish.Order.{Order}
use Rattle.cf_prepare.specs.declared.wish.Order.TheVariants as order
use Rattle.cf_book.specs.Events.{MayEnd}
use Rattle.cf_book.specs.Lives.{InLife, LeadsTo}
use Rattle.cf_book.specs.Record.{IsUnwritten, Writes}
use Rattle.cf_book.specs.State.{BookNow}
use Rattle.cf_book.specs.declared.stop.StopFault.{StopFault}
use Rattle.cf_book.specs.declared.stop.StopFault.TheVariants as stop

-- What may be begun: an operation whose entry may follow the world, by these schemas; or one that is in progress goes on. A change set
-- begins nothing.
abbrev pub IsPrepared : List Schema → World → Order → Type 0
IsPrepared schemas x (order.Begin e) = IsBegin e × IsProper e × MayFollow schemas x [] e
IsPrepared schemas x (order.Review e) = ⊥
IsPrepared schemas x (order.Resume number) = IsInProgress x number

-- the number of the operation that an entry begins
abbrev pub begun_by : Entry → ℕ
begun_by (entry.Begin number stack kind) = number
begun_by e = 0

-- the entry is appended, or could not be, and the number is that of its operation
abbrev pub BeginsOrder : {D : Type 0} → Ghosts D → BookNow D → BookNow D → Order → Result ℕ StopFault → Type 0
BeginsOrder g old new (order.Begin e) result = Writes g old new e result × IfOk result (λ number. number ≡ begun_by e)
BeginsOrder g old new (order.Review e) result = ⊥
BeginsOrder g old new (order.Resume number) result = (result ≡ Ok number) × IsUnwritten old new

-- a stopped book answers what stopped it, and writes nothing
abbrev pub BeginsAs : {D : Type 0} → Ghosts D → BookNow D → BookNow D → Order → Option StopFault → Result ℕ StopFault → Type 0
BeginsAs g old new o None result = BeginsOrder g old new o result
BeginsAs g old new o (Some fault) result = (result ≡ Err fault) × IsUnwritten old new

-- the events of a beginning: the one entry, whole or broken, where memory was there; else none
abbrev pub BeginsLife : {D : Type 0} → List Schema → Life → BookNow D → Order → Option StopFault → Result ℕ StopFault → Type 0
BeginsLife schemas life new (order.Begin e) None (Err stop.NoMemory) = LeadsTo schemas life [] new
BeginsLife schemas life new (order.Begin e) None result = (end : End) → MayEnd result end → LeadsTo schemas life (Begin e end ∷ []) new
BeginsLife schemas life new o stopped result = LeadsTo schemas life [] new

abbrev pub BeginsIn : {D : Type 0} → List Schema → Life → BookNow D → BookNow D → Order → Result ℕ StopFault → Type 0
BeginsIn schemas life old new o result = InLife schemas life old (BeginsLife schemas life new o old.stopped result)
