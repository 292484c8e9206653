-- The one step that a grant takes, and which event of a life that is (this project's own).
use Rattle.std.specs.Prelude.{◌≡◌, ◌⊎◌, ℕ, Bool, true, false, List, [], ◌∷◌, Option, Some, None, Result, Ok, Err, IfOk, IsTrue, map}
use Rattle.cf_tree.specs.Lists.{In}
use Rattle.cf_disk.specs.declared.disk.Disk.{Ghosts as DiskGhosts}
use Rattle.cf_handler.specs.declared.handler.Handler.{Ghosts as HandlerGhosts}
use Rattle.cf_tree.specs.declared.request.Request.{Request}
use Rattle.cf_schema.specs.declared.described.Schema.{Schema}
use Rattle.cf_entry.specs.declared.entry.Entry.{Entry}
use Rattle.cf_entry.specs.declared.entry.Entry.TheVariants as entry
use Rattle.cf_entry.specs.declared.status.Status.{Status}
use Rattle.cf_journal.specs.Record.{record_of}
use Rattle.cf_lane.specs.Calling.{Granted, granted_of, leased_lane}
use Rattle.cf_lane.specs.Lanes.{lane_now}
use Rattle.cf_plan.specs.Follow.{MayFollow}
use Rattle.cf_effect.specs.Status.{goes_forward}
use Rattle.cf_effect.specs.World.{StackState, stack_of_operation}
use Rattle.cf_plan.specs.Life.{End, Grant as Grants, Life, Repeat}
use Rattle.cf_next.specs.Chosen.{HasNoStep, IsInProgress, IsNext, entry_for, leases_of, schemas_of}
use Rattle.cf_next.specs.declared.step.Next.{Next}
use Rattle.cf_next.specs.declared.step.Next.TheVariants as next
use Rattle.cf_core.specs.GoesOn.{HasKinds}
use Rattle.cf_book.specs.Ended.{end_status, ended_in}
use Rattle.cf_book.specs.Events.{MayEnd}
use Rattle.cf_book.specs.Lending.{place_of}
use Rattle.cf_book.specs.Lives.{InLife, LeadsTo}
use Rattle.cf_book.specs.Record.{IsUnwritten, Writes, world_left}
use Rattle.cf_book.specs.State.{BookLane, BookNow, home_of, lent_out}
use Rattle.cf_book.specs.declared.granting.Grant.{Grant}
use Rattle.cf_book.specs.declared.granting.Grant.TheVariants.{Idle, Lease, Moved, Over}
use Rattle.cf_book.specs.declared.stop.StopFault.{StopFault}
use Rattle.cf_book.specs.declared.stop.StopFault.TheVariants as stop

-- an operation is in progress, or has ended since the opening
abbrev pub HasBegun : List Entry → ℕ → Type 0
HasBegun es number = IsInProgress (world_left es) number ⊎ ((status : Status) × (end_status number (ended_in es) ≡ Some status))

-- the step that comes next in the operation, over the world of these entries and by these lanes
abbrev pub ComesNext : List BookLane → List Entry → ℕ → Next → Type 0
ComesNext lanes es number n = IsNext (schemas_of (map home_of lanes)) (world_left es) (leases_of (map home_of lanes)) number n

-- no step of it may start, and no call is out that could come home
abbrev pub NoneComes : List BookLane → List Entry → ℕ → Type 0
NoneComes lanes es number = HasNoStep (schemas_of (map home_of lanes)) (world_left es) (leases_of (map home_of lanes)) number

-- an entry may follow over them while the calls that are out are; so may what a step writes
abbrev pub MayFollowNow : List BookLane → List Entry → Entry → Type 0
MayFollowNow lanes es e = MayFollow (schemas_of (map home_of lanes)) (world_left es) (leases_of (map home_of lanes)) e

abbrev pub Follows : List BookLane → List Entry → ℕ → Next → Type 0
Follows lanes es number n = (e : Entry) → entry_for number n ≡ Some e → MayFollowNow lanes es e

-- a resource is kept, or a phase begins
abbrev pub IsMove : Entry → Type 0
IsMove (entry.Kept number path physical w) = Unit {0}
IsMove (entry.Phase number p cause) = Unit {0}
IsMove e = ⊥

-- no lane is lent; nothing at all is done
pub record KeepsLanes {D : Type 0} (old new : BookNow D) : Type 0 where
  pub lanes : new.lanes ≡ old.lanes
  pub granted : new.has_granted ≡ old.has_granted

abbrev pub IsStill : {D : Type 0} → BookNow D → BookNow D → Type 0
IsStill old new = IsUnwritten old new × KeepsLanes old new

-- The call is open in the world of these entries, on the stack of its operation: its Intent is one of them, for nothing else opens a call.
pub record IsOpenCall (es : List Entry) (lane : List ℕ) (call : Granted) : Type 0 where
  pub name : List ℕ
  pub stack : StackState
  pub path : List ℕ
  pub going : ◌≡◌ {A = Option (List ℕ × StackState)} (stack_of_operation call.number (world_left es)) (Some (name, stack))
  pub pending : In (record { token = call.token; path = path; lane = lane; request = call.request }) stack.tokens

-- the call of a lane at home was granted, which is open and in no doubt, and the lane is lent for it
pub record IsLent {D : Type 0} (old new : BookNow D) (b : BookLane) (call : Granted) : Type 0 where
  pub home : In b old.lanes
  pub free : b.out ≡ None
  pub lanes : new.lanes ≡ lent_out call b.lane old.lanes
  pub granted : new.has_granted ≡ true
  pub open_call : IsOpenCall new.entries b.lane.name call
  pub certain : new.doubt ≡ None

-- The lease is for this call, and owns the lane of this name as it was.
abbrev pub HandsOut : {D H : Type 0} → HandlerGhosts H → BookNow D → BookNow D → List ℕ → Granted → Result (Grant H) StopFault → Type 0
HandsOut g old new lane call (Ok (Lease lease)) =
    (b : BookLane) × IsLent old new b call × (b.lane.name ≡ lane) × (granted_of lease ≡ call) × (lane_now g (leased_lane lease) ≡ b.lane)
HandsOut g old new lane call (Ok other) = ⊥
HandsOut g old new lane call (Err fault) = KeepsLanes old new

-- The Intent of a new call is appended; of one that is made again it stands already, and only memory may be lacking.
abbrev pub WritesCall : {D T : Type 0} → DiskGhosts D → BookNow D → BookNow D → Bool → Entry → Result T StopFault → Type 0
WritesCall g old new false e result = Writes g old new e result
WritesCall g old new true e (Ok x) = IsUnwritten old new
WritesCall g old new true e (Err stop.NoMemory) = IsUnwritten old new
WritesCall g old new true e (Err fault) = ⊥

-- an entry is appended, and this is answered
abbrev pub MovesOn : {D H : Type 0} → DiskGhosts D → BookNow D → BookNow D → Entry → Grant H → Result (Grant H) StopFault → Type 0
MovesOn g old new e a result = Writes g old new e result × KeepsLanes old new × IfOk result (λ answer. answer ≡ a)

-- The step is taken: a lease for its call, a resource kept or a phase, the end; or it is to wait.
abbrev pub TakesStep : {D H : Type 0} → DiskGhosts D → HandlerGhosts H → BookNow D → BookNow D → ℕ → Next → Result (Grant H) StopFault
    → Type 0
TakesStep d h old new number (next.Step path lane token r repeated) result =
    WritesCall d old new repeated (entry.Intent number token lane path r) result
    × HandsOut h old new lane (record { epoch = (world_left old.entries).epoch; number = number; token = token; request = r }) result
TakesStep d h old new number (next.Keep path physical w) result = MovesOn d old new (entry.Kept number path physical w) Moved result
TakesStep d h old new number (next.Turn p cause) result = MovesOn d old new (entry.Phase number p cause) Moved result
TakesStep d h old new number (next.End state failed) result = MovesOn d old new (entry.Done number state failed) (Over state) result
TakesStep d h old new number next.Wait result = (result ≡ Ok Idle) × IsStill old new

-- Why no step is taken: memory is lacking, or a number to count with, of which nothing is told; or there is no step.
pub data IsLacking (lanes : List BookLane) (es : List Entry) (number : ℕ) : Type 0 where
  memory : IsLacking lanes es number
  step : NoneComes lanes es number → IsLacking lanes es number

-- The step that comes next is taken; or nothing is done, and why.
abbrev pub TakesNext : {D H : Type 0} → DiskGhosts D → HandlerGhosts H → BookNow D → BookNow D → ℕ → Result (Grant H) StopFault → Type 0
TakesNext d h old new number result =
    ((n : Next) × ComesNext old.lanes old.entries number n × TakesStep d h old new number n result)
    ⊎ ((result ≡ Err stop.NoMemory) × IsStill old new × IsLacking old.lanes old.entries number)

-- an operation that has ended is over
abbrev pub GrantsStep : {D H : Type 0} → DiskGhosts D → HandlerGhosts H → BookNow D → BookNow D → ℕ → Option Status
    → Result (Grant H) StopFault → Type 0
GrantsStep d h old new number (Some status) result = (result ≡ Ok (Over status)) × IsStill old new
GrantsStep d h old new number None result = TakesNext d h old new number result

-- a stopped book answers what stopped it, and does nothing
abbrev pub GrantsAs : {D H : Type 0} → DiskGhosts D → HandlerGhosts H → BookNow D → BookNow D → ℕ → Option StopFault
    → Result (Grant H) StopFault → Type 0
GrantsAs d h old new number None result = GrantsStep d h old new number (end_status number (ended_in old.entries)) result
GrantsAs d h old new number (Some fault) result = (result ≡ Err fault) × IsStill old new

-- nothing was written, and no event happened
abbrev pub StaysLife : {D : Type 0} → List Schema → Life → BookNow D → BookNow D → Type 0
StaysLife schemas life old new = IsUnwritten old new × LeadsTo schemas life [] new

-- An entry that is granted as an event: whole or broken, where memory was there; else there is none.
abbrev pub WritesLife : {D T : Type 0} → List Schema → Life → BookNow D → BookNow D → Entry → Result T StopFault → Type 0
WritesLife schemas life old new e (Err stop.NoMemory) = StaysLife schemas life old new
WritesLife schemas life old new e result = (end : End) → MayEnd result end → LeadsTo schemas life (Grants e end ∷ []) new

-- the events of a step: an entry, a call that is made again, or none
abbrev pub StepLife : {D T : Type 0} → List Schema → Life → BookNow D → BookNow D → ℕ → Next → Result T StopFault → Type 0
StepLife schemas life old new number (next.Step path lane token r true) (Ok x) = LeadsTo schemas life (Repeat token ∷ []) new
StepLife schemas life old new number (next.Step path lane token r true) (Err fault) = StaysLife schemas life old new
StepLife schemas life old new number (next.Step path lane token r false) result =
    WritesLife schemas life old new (entry.Intent number token lane path r) result
StepLife schemas life old new number (next.Keep path physical w) result =
    WritesLife schemas life old new (entry.Kept number path physical w) result
StepLife schemas life old new number (next.Turn p cause) result = WritesLife schemas life old new (entry.Phase number p cause) result
StepLife schemas life old new number (next.End state failed) result =
    WritesLife schemas life old new (entry.Done number state failed) result
StepLife schemas life old new number next.Wait result = StaysLife schemas life old new

abbrev pub MovesIn : {D T : Type 0} → List Schema → Life → BookNow D → BookNow D → Entry → Result T StopFault → Type 0
MovesIn schemas life old new e result = InLife schemas life old (WritesLife schemas life old new e result)

abbrev pub StepsIn : {D T : Type 0} → List Schema → Life → BookNow D → BookNow D → ℕ → Next → Result T StopFault → Type 0
StepsIn schemas life old new number n result = InLife schemas life old (StepLife schemas life old new number n result)

-- those of the step that comes next, or none where none is taken
abbrev pub GrantsLife : {D T : Type 0} → List Schema → Life → BookNow D → BookNow D → ℕ → Result T StopFault → Type 0
GrantsLife schemas life old new number result =
    StaysLife schemas life old new
    ⊎ ((n : Next) × ComesNext old.lanes old.entries number n × StepLife schemas life old new number n result)

abbrev pub GrantsIn : {D T : Type 0} → List Schema → Life → BookNow D → BookNow D → ℕ → Result T StopFault → Type 0
GrantsIn schemas life old new number result = InLife schemas life old (GrantsLife schemas life old new number result)

-- An operation in progress never lacks a step where no call is out, as long as each type that its template wants has a lane.
abbrev pub HasStep : {D : Type 0} → BookNow D → ℕ → Type 0
HasStep b number =
    (name : List ℕ) (s : StackState)
    → ◌≡◌ {A = Option (List ℕ × StackState)} (stack_of_operation number (world_left b.entries)) (Some (name, s))
    → (goes_forward s.status ≡ true → HasKinds (world_left b.entries) s) → NoneComes b.lanes b.entries number → ⊥

abbrev pub NeverStuck : {D : Type 0} → List Schema → Life → BookNow D → ℕ → Type 0
NeverStuck schemas life b number = b.stopped ≡ None → InLife schemas life b (HasStep b number)

-- The lane of the call that comes next is found: it is at home, no call of the token is out, and it is open just where it is made again.
abbrev pub FindsLane : {D : Type 0} → BookNow D → ℕ → Type 0
FindsLane b number =
    (path lane : List ℕ) (token : ℕ) (r : Request) (twice : Bool) → ComesNext b.lanes b.entries number (next.Step path lane token r twice)
    → (at : ℕ) × (place_of number (world_left b.entries) (map home_of b.lanes) lane token twice ≡ Some at)

abbrev pub NeverLacksLane : {D : Type 0} → List Schema → Life → BookNow D → ℕ → Type 0
NeverLacksLane schemas life b number = b.stopped ≡ None → InLife schemas life b (FindsLane b number)

-- A lease comes only after that: the call is open in all that a crash leaves, for that is just what was acknowledged.
pub record IsDurable {D : Type 0} (g : DiskGhosts D) (b : BookNow D) (lane : List ℕ) (call : Granted) : Type 0 where
  pub open_call : IsOpenCall b.entries lane call
  pub each : IsTrue g.tells → (bytes : List ℕ) → g.may_leave b.disk bytes → record_of bytes ≡ Ok b.entries
