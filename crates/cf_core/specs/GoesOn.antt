-- An operation goes on until its end: where no lease is out, some entry of it may follow, or some open call may be made again (this
-- project's own).
use Rattle.std.specs.Prelude.{◌≡◌, ◌⊎◌, ◌≤◌, ℕ, true, false, List, [], Option, Some, map}
use Rattle.std.specs.List.{list_any}
use Rattle.cf_tree.specs.Datum.{Data}
use Rattle.cf_tree.specs.Lists.{is_among}
use Rattle.cf_tree.specs.declared.code.Code.{Code}
use Rattle.cf_tree.specs.declared.request.Request.TheVariants as request
use Rattle.cf_tree.specs.declared.source.Source.{Source}
use Rattle.cf_entry.specs.declared.entry.Entry.{Entry}
use Rattle.cf_entry.specs.declared.entry.Entry.TheVariants as entry
use Rattle.cf_entry.specs.declared.entry.Reply.TheVariants as reply
use Rattle.cf_entry.specs.declared.status.Status.{Status}
use Rattle.cf_entry.specs.declared.status.Status.TheVariants as status
use Rattle.cf_schema.specs.declared.described.Schema.{Schema}
use Rattle.cf_desired.specs.declared.wanted.Wanted.{Wanted}
use Rattle.cf_effect.specs.declared.call.Call.{Call}
use Rattle.cf_effect.specs.declared.call.Settled.TheVariants as settled
use Rattle.cf_effect.specs.declared.held.Held.{Held}
use Rattle.cf_effect.specs.declared.held.Pending.{Pending}
use Rattle.cf_effect.specs.Calls.{call_under as call_of, doubts_of}
use Rattle.cf_effect.specs.Operation.{Response, doubts_in, is_phase, now_of, replies_in}
use Rattle.cf_effect.specs.Words.{current_at, is_update}
use Rattle.cf_effect.specs.World.{StackState, World, stack_of_operation}
use Rattle.cf_effect.specs.Status.{Forward, Stage, goes_forward, is_in_progress, stage_of}
use Rattle.cf_plan.specs.Follow.{MayFollowOn, MayRepeat, MayRepeatOn, MayStep, cleaned_in}
use Rattle.cf_plan.specs.Forward.{IsReady, Known, evaluated_at, plan_now, was_answered_at}
use Rattle.cf_tree.specs.Lists.{In}
use Rattle.cf_core.specs.Advancing.{IsAdvancing}
use Rattle.cf_core.specs.Course.{IsOnCourse}
use Rattle.cf_core.specs.Fits.{Fits, IsWritten}
use Rattle.cf_core.specs.Tidying.{IsCleanup, IsTidying}

abbrev pub HasNext : List Schema → World → ℕ → Type 0
HasNext schemas x number = ((e : Entry) × MayFollowOn schemas number x [] e) ⊎ ((p : Pending) × MayRepeatOn schemas x [] number p)

-- a step may come on its stack, or an open call may be made again
abbrev pub StepsIn : List Schema → List ℕ → World → StackState → Stage → Type 0
StepsIn schemas name x s stage =
    ((e : Entry) × MayStep schemas name x [] s stage e) ⊎ ((p : Pending) × MayRepeat schemas name x [] s stage p)

-- a cleanup goes on until its end
abbrev pub CleanupGoesOn : Type 0
CleanupGoesOn =
    (schemas : List Schema) (name : List ℕ) (x : World) (s : StackState) (stage : Stage) (at : Status)
    → ◌≡◌ {A = Option (List ℕ × StackState)} (stack_of_operation s.operation x) (Some (name, s)) → IsCleanup stage at → s.status ≡ at
    → Fits x s → IsTidying (cleaned_in stage s) s → HasNext schemas x s.operation

-- so does a rollback, and a deletion
abbrev pub RollbackGoesOn : Type 0
RollbackGoesOn =
    (schemas : List Schema) (name : List ℕ) (x : World) (s : StackState)
    → ◌≡◌ {A = Option (List ℕ × StackState)} (stack_of_operation s.operation x) (Some (name, s))
    → (s.status ≡ status.RollbackInProgress) ⊎ (s.status ≡ status.UpdateRollbackInProgress) → HasNext schemas x s.operation

abbrev pub DeletionGoesOn : Type 0
DeletionGoesOn =
    (schemas : List Schema) (name : List ℕ) (x : World) (s : StackState)
    → ◌≡◌ {A = Option (List ℕ × StackState)} (stack_of_operation s.operation x) (Some (name, s)) → s.status ≡ status.DeleteInProgress
    → HasNext schemas x s.operation

-- What the entries and the ledger of a forward phase say of each other: no later phase began; each answer's call has its row; an
-- open call was in doubt in this opening as often as its row says, and an open update is the first at its path; an update that was
-- refused asked for what the template says now, of what is held at its path, which is ready.
abbrev pub IsRefusedIn : StackState → Call → Code → Type 0
IsRefusedIn s c k = (number : ℕ) × (before : ℕ) × (after : ℕ) × In (entry.Outcome number c.token (reply.Failed k) before after) s.entries

abbrev pub AsksOfNow : StackState → List ℕ → List ℕ → List (List ℕ × Data) → Type 0
AsksOfNow s path id props = (h : Held) × (current_at path s.held ≡ Some h) × (h.physical ≡ id) × (evaluated_at path s ≡ Known h.kind props)

pub record IsRefusedAhead (s : StackState) (c : Call) (id : List ℕ) (props : List (List ℕ × Data)) (k : Code) : Type 0 where
  pub told : IsRefusedIn s c k
  pub ready : IsReady s c.path
  pub asks : AsksOfNow s c.path id props

pub record IsTold (s : StackState) : Type 0 where
  pub no_phase : list_any is_phase s.entries ≡ false
  pub called : (r : Response) → In r (replies_in s.entries) → (c : Call) × (call_of r.token s ≡ Some c)
  pub doubted : (p : Pending) → In p s.tokens → doubts_of p.token s ≤ doubts_in p.token (now_of s)
  pub once : (p : Pending) → In p s.tokens → is_update p.request ≡ true → was_answered_at p.path s ≡ false
  pub refused :
      (c : Call) (id : List ℕ) (props : List (List ℕ × Data)) (k : Code) → In c s.ledger → c.request ≡ request.Update id props
      → c.answer ≡ Some (settled.Failed k) → IsRefusedAhead s c id props k

-- each type that the template wants has a lane among those of the last opening
abbrev pub HasKinds : World → StackState → Type 0
HasKinds x s = (w : Wanted) → In w (plan_now s).wanted → is_among w.kind (map (λ l. l.1) x.lanes) ≡ true

-- so does a creation, and an update, as it goes forward
abbrev pub ForwardGoesOn : Type 0
ForwardGoesOn =
    (schemas : List Schema) (name : List ℕ) (x : World) (s : StackState) (source : Source)
    → ◌≡◌ {A = Option (List ℕ × StackState)} (stack_of_operation s.operation x) (Some (name, s)) → stage_of s.status ≡ Some Forward
    → Fits x s → IsAdvancing schemas s source → HasKinds x s → IsTold s → HasNext schemas x s.operation

-- so does every operation on its course
abbrev pub OperationGoesOn : Type 0
OperationGoesOn =
    (schemas : List Schema) (name : List ℕ) (x : World) (s : StackState)
    → ◌≡◌ {A = Option (List ℕ × StackState)} (stack_of_operation s.operation x) (Some (name, s)) → is_in_progress s.status ≡ true → Fits x s
    → IsOnCourse schemas name x s s.status → (goes_forward s.status ≡ true → HasKinds x s × IsTold s) → HasNext schemas x s.operation

-- it is told as a creation or an update begins, and with each entry of its forward phase
abbrev pub ToldBegins : Type 0
ToldBegins =
    (schemas : List Schema) (x : World) (out : List ℕ) (e : Entry) (name : List ℕ) (s t : StackState) → IsWritten schemas x out e name s t
    → goes_forward s.status ≡ false → goes_forward t.status ≡ true → s.tokens ≡ [] → IsTold t

abbrev pub ToldStays : Type 0
ToldStays =
    (schemas : List Schema) (x : World) (out : List ℕ) (e : Entry) (name : List ℕ) (s t : StackState) (source : Source)
    → IsWritten schemas x out e name s t → goes_forward s.status ≡ true → goes_forward t.status ≡ true → IsAdvancing schemas s source
    → IsTold s → IsTold t
