-- Why an operation ended so, and what its stack keeps (User Guide: stack status codes, stack failure options; which cause is told is this
-- project's own).
use Rattle.std.specs.Prelude.{◌≡◌, ◌⊎◌, ℕ, true, List, [], ◌++◌, Option, Some, None, Ok, IsTrue, filter_map, ⊤}
use Rattle.std.specs.Io.KnownBytes.{Appends}
use Rattle.cf_tree.specs.Counts.{HasRisen}
use Rattle.cf_tree.specs.Lists.{In, first_in}
use Rattle.cf_disk.specs.declared.disk.Disk.{Ghosts as DiskGhosts}
use Rattle.cf_handler.specs.declared.handler.Handler.{Ghosts as HandlerGhosts}
use Rattle.cf_schema.specs.declared.described.Schema.{Schema}
use Rattle.cf_entry.specs.declared.entry.Begun.TheVariants as begin
use Rattle.cf_entry.specs.declared.entry.Entry.{Entry}
use Rattle.cf_entry.specs.declared.entry.Entry.TheVariants as entry
use Rattle.cf_entry.specs.declared.entry.Reply.{Reply}
use Rattle.cf_entry.specs.declared.entry.Reply.TheVariants as reply
use Rattle.cf_entry.specs.declared.status.Status.{Status}
use Rattle.cf_entry.specs.declared.turn.Cause.{Cause}
use Rattle.cf_entry.specs.declared.turn.Cause.TheVariants as cause
use Rattle.cf_entry.specs.declared.turn.Reason.{Reason}
use Rattle.cf_effect.specs.declared.call.Call.{Call}
use Rattle.cf_effect.specs.Calls.{call_under}
use Rattle.cf_effect.specs.Operation.{own_of}
use Rattle.cf_effect.specs.World.{StackState, World, empty_world, known_stack, stack_at}
use Rattle.cf_lane.specs.Lanes.{LaneNow}
use Rattle.cf_plan.specs.Follow.{IsCounted}
use Rattle.cf_plan.specs.Lanes.{Lane}
use Rattle.cf_plan.specs.Promise.{Promised}
use Rattle.cf_plan.specs.Run.{IsOwn}
use Rattle.cf_core.specs.More.{has_completed}
use Rattle.cf_prepare.specs.declared.wish.Order.{Order}
use Rattle.cf_prepare.specs.declared.wish.Order.TheVariants as order
use Rattle.cf_book.specs.Fences.{handed_in}
use Rattle.cf_book.specs.Record.{world_left}
use Rattle.cf_book.specs.State.{BookNow}
use Rattle.cf_face.specs.declared.exit.Exit.{Exit}
use Rattle.cf_face.specs.declared.exit.Exit.TheVariants as exit
use Rattle.cf_face.specs.declared.words.Task.{Task}
use Rattle.cf_workers.specs.Agreement.{Agree, all_as_told}
use Rattle.cf_workers.specs.Driving.{EndsWith}
use Rattle.cf_workers.specs.Turning.{IsCountedAsSent, TurnsBack, cause_in, reason_in}
use Rattle.cf_top.specs.Outside.{HaveAgreed, Outside, Printing, WasDone}
use Rattle.cf_workers.specs.Ordering.{schemas_in, before_by, going_by, number_of, with_order}
use Rattle.cf_top.specs.Tasks.{OrdersTask, number_for, task_words}
use Rattle.cf_top.specs.Telling.{exit_for, task_report}

-- What the journal has of the operation, behind the entries of the book that was entered: its beginning, if the command began it, and then
-- these entries, each of the operation, of which the last is its end, in this status and with these paths.
pub record WroteOperation {D : Type 0} (entered ended : BookNow D) (ordered : Order) (state : Status) : Type 0 where
  pub es : List Entry
  pub wrote : ended.entries ≡ with_order entered.entries ordered ++ es
  pub own : (e : Entry) → In e es → IsOwn (number_of ordered) e
  pub over : EndsWith es (number_of ordered) state

-- An entry of the operation that an earlier command wrote: there is none of one that this command began.
abbrev pub WasBefore : List Entry → Order → Entry → Type 0
WasBefore es (order.Resume number) e = In e es
WasBefore es _ e = ⊥

-- The counts of an outcome lie between those of the lane that its call went out to, as it was and as it is, and have risen where the call
-- was refused or broke off.
abbrev pub CountsWithin : List LaneNow → List LaneNow → List Entry → Entry → Type 0
CountsWithin lanes lanes' es (entry.Outcome number token answer before after) =
    IsCounted answer before after × IsCountedAsSent lanes lanes' es (entry.Outcome number token answer before after)
CountsWithin lanes lanes' es _ = ⊤

-- One of the operation's calls failed, in this command or an earlier one: a call at this path, as the stack's ledger says, was refused or
-- broke off for this reason, and the count of its lane rose in it.
pub record CallFailed (earlier : List Entry) (ordered : Order) (es : List Entry) (s : StackState) (path : List ℕ) (why : Reason) : Type 0
  where
    pub token : ℕ
    pub answer : Reply
    pub before : ℕ
    pub after : ℕ
    pub stands :
        In (entry.Outcome (number_of ordered) token answer before after) es
        ⊎ WasBefore earlier ordered (entry.Outcome (number_of ordered) token answer before after)
    pub told : reason_in answer ≡ Some why
    pub call : Call
    pub of_call : call_under token s ≡ Some call
    pub at_path : call.path ≡ path
    pub rose : HasRisen before after

-- where the cause is a handler, it failed a call at that path for that reason
abbrev pub FailedBy : List Entry → Order → List Entry → StackState → Cause → Type 0
FailedBy earlier ordered es s (cause.Handler path why) = CallFailed earlier ordered es s path why
FailedBy earlier ordered es s (cause.Plan fault) = ⊤
FailedBy earlier ordered es s (cause.Export name) = ⊤

-- The same; of an operation that an earlier command began it is said where disk and lanes agreed.
abbrev pub HadCause : {D H : Type 0} → DiskGhosts D → HandlerGhosts H → Outside D H → BookNow D → Order → List Entry → StackState → Cause
    → Type 0
HadCause g h m entered (order.Resume number) es s c = HaveAgreed g h m → FailedBy entered.entries (order.Resume number) es s c
HadCause g h m entered ordered es s c = FailedBy entered.entries ordered es s c

-- The operation turned back for this cause in this command, as it stood then.
abbrev pub TurnedNow : {D H : Type 0} → DiskGhosts D → HandlerGhosts H → Outside D H → BookNow D → List ℕ → Order → List Entry → StackState
    → Cause → Type 0
TurnedNow g h m entered name ordered es s c =
    TurnsBack (schemas_in entered.lanes) (world_left (with_order entered.entries ordered)) (number_of ordered) name es c
    × HadCause g h m entered ordered es s c

-- An earlier command wrote that it turned back for this cause; where disk and lanes agreed it did, as it stood then.
abbrev pub had_turned : List ℕ → World → Order → Option Cause
had_turned name x (order.Resume number) = first_in (filter_map cause_in (own_of (known_stack name x)))
had_turned name x _ = None

pub record TurnedBefore {D H : Type 0} (g : DiskGhosts D) (h : HandlerGhosts H) (m : Outside D H) (entered : BookNow D) (name : List ℕ)
    (ordered : Order) (es : List Entry) (s : StackState) (c : Cause) : Type 0 where
  pub wrote : had_turned name (world_left entered.entries) ordered ≡ Some c
  pub turned :
      IsTrue g.tells → (schemas : List Schema) (all : List Lane) → Agree g h schemas m.disk m.handlers all
      → TurnsBack schemas empty_world (number_of ordered) name entered.entries c
  pub failed : HaveAgreed g h m → FailedBy entered.entries ordered es s c

-- Of an operation that an earlier command began, in a journal that does not agree with the lanes, no entry may tell why it turned back.
abbrev pub IsUntold : {D H : Type 0} → DiskGhosts D → HandlerGhosts H → Outside D H → Order → StackState → Type 0
IsUntold g h m (order.Resume number) s = (HaveAgreed g h m → ⊥) × (filter_map cause_in (own_of s) ≡ [])
IsUntold g h m _ s = ⊥

-- where disk and lanes agreed, a call at each of these paths failed
abbrev pub FailedAt : {D H : Type 0} → DiskGhosts D → HandlerGhosts H → Outside D H → BookNow D → Order → List Entry → StackState
    → List (List ℕ) → Type 0
FailedAt g h m entered ordered es s blamed =
    HaveAgreed g h m → (path : List ℕ) → In path blamed → (why : Reason) × CallFailed entered.entries ordered es s path why

-- The paths that are told are those of the operation's end; of an operation that goes on with another one, where disk and lanes agreed.
abbrev pub TellsEnd : {D H : Type 0} → DiskGhosts D → HandlerGhosts H → Outside D H → Order → List (List ℕ) → List (List ℕ) → Type 0
TellsEnd g h m (order.Begin (entry.Begin number stack (begin.Create source))) blamed failed = blamed ≡ failed
TellsEnd g h m (order.Begin (entry.Begin number stack (begin.Update source))) blamed failed = blamed ≡ failed
TellsEnd g h m ordered blamed failed = HaveAgreed g h m → blamed ≡ failed

-- Why the operation ended so. One that was rolled back turned back for the cause that is told. Where the rollback failed too, the paths of
-- its end are told. What was done has no cause.
abbrev pub EndsBy : {D H : Type 0} → DiskGhosts D → HandlerGhosts H → Outside D H → {entered ended : BookNow D} → {ordered : Order}
    → {state : Status} → List ℕ → WroteOperation entered ended ordered state → StackState → Exit → Type 0
EndsBy g h m name w s exit.Done = ⊤
EndsBy g h m {entered} {ended} {ordered} name w s (exit.RolledBack c) =
    TurnedNow g h m entered name ordered w.es s c
    ⊎ (TurnedBefore g h m entered name ordered w.es s c ⊎ IsUntold g h m ordered s)
EndsBy g h m {entered} {ended} {ordered} name w s (exit.Failed blamed) =
    TellsEnd g h m ordered blamed w.over.failed × FailedAt g h m entered ordered w.es s blamed
EndsBy g h m name w s _ = ⊥

-- What the stack keeps. Where disk and lanes agreed as they were handed in, it keeps what its status promises, over the lanes as they are
-- given back. What is complete is what the operation works by, and what is restored is what was held before it.
pub record KeepsStatus {D H : Type 0} (g : DiskGhosts D) (h : HandlerGhosts H) (m : Outside D H) (name : List ℕ) (x : World)
    (ordered : Order) (x' : World) (s : StackState) : Type 0 where
  pub promised :
      IsTrue g.tells → (schemas : List Schema) (all : List Lane) → Agree g h schemas m.disk m.handlers all
      → Promised s.status name x' s (all_as_told (handed_in h m.handlers') all)
  pub works_by : s.going ≡ going_by name (known_stack name x) ordered
  pub before_is : s.before ≡ before_by (known_stack name x) ordered
  pub completes : HaveAgreed g h m → has_completed s.status ≡ true → s.source ≡ s.going

-- The operation was driven to its end: the one that the words order. The journal has its old entries, the opening, and what was written
-- then. What is printed is the task's report on the stack that they leave, which says the exit, as its end does.
pub record HasEnded {D H : Type 0} (g : DiskGhosts D) (h : HandlerGhosts H) (m : Outside D H) (p : Printing) (words : List (List ℕ))
    (e : Exit) : Type 0 where
  pub name : List ℕ
  pub what : Task
  pub said : task_words words ≡ Some (name, what)
  pub entered : BookNow D
  pub ended : BookNow D
  pub state : Status
  pub was : WasDone g h m name what entered ended (Ok state)
  pub ordered : Order
  pub orders : OrdersTask m.library (schemas_in entered.lanes) (world_left entered.entries) name what ordered
  pub number_is : number_of ordered ≡ number_for (world_left entered.entries) name what
  pub wrote : WroteOperation entered ended ordered state
  pub stack : StackState
  pub counted : (x : Entry) → In x wrote.es → CountsWithin (handed_in h m.handlers) (handed_in h m.handlers') ended.entries x
  pub here : stack_at name (world_left ended.entries) ≡ Some stack
  pub status_is : stack.status ≡ state
  pub operation_is : stack.operation ≡ number_of ordered
  pub exit_is : e ≡ exit_for stack
  pub because : EndsBy g h m name wrote stack e
  pub promise : KeepsStatus g h m name (world_left entered.entries) ordered (world_left ended.entries) stack
  pub printed : Appends p.held p.held' (task_report what name stack e)

-- an answer that is a success
abbrev pub IsSuccess : Reply → Type 0
IsSuccess (reply.Success physical attrs) = ⊤
IsSuccess _ = ⊥

-- an entry that is no outcome of a call that was refused or broke off
abbrev pub IsNoFailure : Entry → Type 0
IsNoFailure (entry.Outcome number token answer before after) = IsSuccess answer
IsNoFailure _ = ⊤

-- An end that blames no call of this command: done; rolled back for a cause that the operation's entries held before, or for no handler; or
-- failed at paths of which each had failed before. There is none of an operation that this command began.
abbrev pub BlamesNoCall : {D H : Type 0} → DiskGhosts D → HandlerGhosts H → Outside D H → BookNow D → List ℕ → Order → StackState → Exit
    → Type 0
BlamesNoCall g h m entered name ordered s exit.Done = ⊤
BlamesNoCall g h m entered name ordered s (exit.RolledBack c) =
    (had_turned name (world_left entered.entries) ordered ≡ Some c) ⊎ HadCause g h m entered ordered [] s c
BlamesNoCall g h m entered name ordered s (exit.Failed blamed) = FailedAt g h m entered ordered [] s blamed
BlamesNoCall g h m entered name ordered s _ = ⊥

-- an operation ended, all of whose calls of this command succeeded, and none of them is blamed
abbrev pub EndsWithoutFailure : {D H : Type 0} → DiskGhosts D → HandlerGhosts H → Outside D H → Printing → List (List ℕ) → Exit → Type 0
EndsWithoutFailure g h m p words e =
    (d : HasEnded g h m p words e) × ((x : Entry) → In x d.wrote.es → IsNoFailure x)
    × BlamesNoCall g h m d.entered d.name d.ordered d.stack e
