-- What a command that opens the journal of a disk comes to (this project's own).
use Rattle.std.specs.Prelude.{◌≡◌, ◌⊎◌, ℕ, List, Option, None, Some, Result, Ok, Err, IsTrue, ⊤}
use Rattle.cf_disk.specs.Disk.{LeavesOnly}
use Rattle.cf_disk.specs.declared.disk.Disk.{Ghosts as DiskGhosts}
use Rattle.cf_handler.specs.declared.handler.Handler.{Ghosts as HandlerGhosts}
use Rattle.cf_schema.specs.declared.described.Schema.{Schema}
use Rattle.cf_entry.specs.declared.entry.Entry.{Entry}
use Rattle.cf_entry.specs.declared.status.Status.{Status}
use Rattle.cf_effect.specs.World.{StackState, World, stack_at}
use Rattle.cf_plan.specs.Lanes.{Lane}
use Rattle.cf_book.specs.Calls.{AreHandlersOf}
use Rattle.cf_book.specs.Entering.{IsEntered, LeavesOpening, MayOpenOn, RefusesAs}
use Rattle.cf_book.specs.Fences.{handed_in}
use Rattle.cf_book.specs.Record.{KeepsRoom, KnowsDisk, world_left}
use Rattle.cf_book.specs.State.{BookNow, NoneOut}
use Rattle.cf_book.specs.declared.refused.EnterFault.{EnterFault}
use Rattle.cf_face.specs.Print.{PrintTells}
use Rattle.cf_face.specs.declared.words.Task.{Task}
use Rattle.cf_face.specs.declared.exit.Exit.{Exit}
use Rattle.cf_face.specs.declared.exit.Exit.TheVariants as exit
use Rattle.cf_workers.specs.Agreement.{Agree}
use Rattle.cf_top.specs.Crash.{Lasts}
use Rattle.cf_top.specs.Performed.{DoesTask, NeverAhead}
use Rattle.cf_workers.specs.Ordering.{IsEnded}
use Rattle.cf_top.specs.Refusals.{IsUnasked, LibraryUse}
use Rattle.cf_top.specs.Tasks.{number_for}
use Rattle.cf_workers.specs.Driving.{IsAtRest}
use Rattle.cf_workers.specs.Leading.{IsStretch}
use Rattle.cf_top.specs.Opening.{enter_exit}
use Rattle.cf_top.specs.Telling.{outcome_exit, outcome_text}

-- what a command meets outside, before and after: the library, the disk, and the handlers that are handed in
pub record Outside (D H : Type 0) : Type 0 where
  pub library : LibraryUse
  pub disk : D
  pub disk' : D
  pub handlers : List H
  pub handlers' : List H

-- a sink before and after: its bytes, and its faults
pub record Printing : Type 0 where
  pub held : Option (List ℕ)
  pub held' : Option (List ℕ)
  pub faults : ℕ
  pub faults' : ℕ

-- nothing was changed outside, and nothing asked
abbrev pub NothingTouched : {D H : Type 0} → Outside D H → Type 0
NothingTouched m = (m.disk' ≡ m.disk) × (m.handlers' ≡ m.handlers) × IsUnasked m.library

-- disk and lanes agreed as they were handed in
abbrev pub HaveAgreed : {D H : Type 0} → DiskGhosts D → HandlerGhosts H → Outside D H → Type 0
HaveAgreed g h m = IsTrue g.tells × (schemas : List Schema) × (all : List Lane) × Agree g h schemas m.disk m.handlers all

-- The journal was opened and the fences were raised: meanwhile a crash left what it might have left before, or the old entries, or these
-- with the opening. The book was closed.
abbrev pub HasEntered : {D H : Type 0} → DiskGhosts D → HandlerGhosts H → Outside D H → BookNow D → Type 0
HasEntered g h m b =
    (es : List Entry) × MayOpenOn g m.disk (handed_in h m.handlers) es × IsEntered es (handed_in h m.handlers) b × KnowsDisk g b
    × KeepsRoom g m.disk b.disk
    × (IsTrue g.tells → LeavesOnly g.moment g.left_since m.disk b.disk (LeavesOpening g m.disk (handed_in h m.handlers)))

abbrev pub IsClosed : {D H : Type 0} → DiskGhosts D → HandlerGhosts H → Outside D H → BookNow D → Type 0
IsClosed g h m b = (m.disk' ≡ b.disk) × AreHandlersOf h b.lanes m.handlers' × NoneOut b.lanes × KnowsDisk g b

-- The journal was not opened, or not every fence raised.
abbrev pub WasRefused : {D H : Type 0} → DiskGhosts D → HandlerGhosts H → Outside D H → Exit → Type 0
WasRefused g h m e =
    (fault : EnterFault) × RefusesAs g h m.disk m.handlers m.disk' m.handlers' fault × (e ≡ enter_exit fault) × IsUnasked m.library

-- A task over the book came to this.
pub record WasDone {D H : Type 0} (g : DiskGhosts D) (h : HandlerGhosts H) (m : Outside D H) (name : List ℕ) (t : Task)
    (entered ended : BookNow D) (result : Result Status Exit) : Type 0 where
  pub enters : HasEntered g h m entered
  pub does : DoesTask g m.library entered ended name t result
  pub stretch : IsStretch g entered ended
  pub closes : IsClosed g h m ended

-- The stack that the task's operation left, which ended in this status: nothing is in doubt, and no call is out.
pub record LeavesStack {D : Type 0} (g : DiskGhosts D) (entered ended : BookNow D) (name : List ℕ) (t : Task) (status : Status)
    (st : StackState) : Type 0 where
  pub over : IsEnded ended name (number_for (world_left entered.entries) name t) status
  pub stack_is : over.stack ≡ st
  pub rest : IsAtRest g ended

-- where a lane is told to be ahead of the opening, disk and lanes did not agree
abbrev pub NoneAhead : {D H : Type 0} → DiskGhosts D → HandlerGhosts H → Outside D H → Exit → Type 0
NoneAhead g h m (exit.LaneAhead name fence epoch) = HaveAgreed g h m → ⊥
NoneAhead g h m e = ⊤

-- What a task comes to: its stack, or an exit with its cause. After an operation that ended, a crash leaves just what a read gives.
abbrev pub CameTo : {D H : Type 0} → DiskGhosts D → HandlerGhosts H → Outside D H → List ℕ → Task → Result StackState Exit → Type 0
CameTo {D} g h m name t (Ok st) =
    (entered ended : BookNow D) × (status : Status) × WasDone g h m name t entered ended (Ok status)
    × LeavesStack g entered ended name t status st × Lasts g.tells (g.seen m.disk') (g.may_leave m.disk')
CameTo {D} g h m name t (Err e) =
    (WasRefused g h m e ⊎ ((entered ended : BookNow D) × WasDone g h m name t entered ended (Err e))) × NoneAhead g h m e

-- What a task over a book leaves of it, by what it comes to: its stack, or an exit.
abbrev pub LeavesBook : {D : Type 0} → DiskGhosts D → LibraryUse → BookNow D → BookNow D → List ℕ → Task → Result StackState Exit → Type 0
LeavesBook g o book ended name t (Ok st) =
    (status : Status) × DoesTask g o book ended name t (Ok status) × LeavesStack g book ended name t status st
LeavesBook g o book ended name t (Err e) = DoesTask g o book ended name t (Err e) × NeverAhead book (Err e)

-- what is printed at the end is the answer, where it could be printed
abbrev pub Printed : Printing → List ℕ → Task → Result StackState Exit → Exit → Type 0
Printed p name t outcome e = PrintTells p.held p.held' p.faults p.faults' (outcome_text name t outcome) (outcome_exit outcome) e

-- what is printed of a task over a world that it left
abbrev pub TellsOutcome : Printing → List ℕ → Task → World → Result Status Exit → Exit → Type 0
TellsOutcome p name t x (Ok status) e = (st : StackState) × (stack_at name x ≡ Some st) × Printed p name t (Ok st) e
TellsOutcome p name t x (Err early) e = Printed p name t (Err early) e

-- a task over a book, which is closed then, and what is printed of it
pub record DoesOver {D H : Type 0} (g : DiskGhosts D) (h : HandlerGhosts H) (o : LibraryUse) (p : Printing) (book : BookNow D) (disk' : D)
    (handlers' : List H) (name : List ℕ) (t : Task) (e : Exit) : Type 0 where
  pub ended : BookNow D
  pub outcome : Result StackState Exit
  pub leaves : LeavesBook g o book ended name t outcome
  pub disk_is : disk' ≡ ended.disk
  pub handlers_are : AreHandlersOf h ended.lanes handlers'
  pub none_out : NoneOut ended.lanes
  pub known : KnowsDisk g ended
  pub lasts : ended.stopped ≡ None → Lasts g.tells (g.seen disk') (g.may_leave disk')
  pub stretch : IsStretch g book ended
  pub prints : Printed p name t outcome e

-- a task over the journal of a disk, and what is printed of it
abbrev pub DoesOn : {D H : Type 0} → DiskGhosts D → HandlerGhosts H → Outside D H → Printing → List ℕ → Task → Exit → Type 0
DoesOn g h m p name t e = (outcome : Result StackState Exit) × CameTo g h m name t outcome × Printed p name t outcome e
