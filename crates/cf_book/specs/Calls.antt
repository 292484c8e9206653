-- What the calls of a book promise (this project's own).
use Rattle.std.specs.Prelude.{◌≡◌, List, [], Option, Some, None, Result, Ok, Err, map, slice_get}
use Rattle.cf_tree.specs.declared.request.Answer.{Answer}
use Rattle.cf_tree.specs.declared.request.Answer.TheVariants as answer
use Rattle.cf_disk.specs.declared.disk.Disk.{Ghosts as DiskGhosts}
use Rattle.cf_handler.specs.declared.handler.Handler.{Ghosts as HandlerGhosts}
use Rattle.cf_entry.specs.declared.entry.Reply.{Reply}
use Rattle.cf_lane.specs.Calling.{IsCalled, answered_lane, granted_in, granted_of, leased_lane, told_of}
use Rattle.cf_lane.specs.Lanes.{LaneNow, lane_now, lane_with}
use Rattle.cf_lane.specs.declared.lease.Answered.{Answered}
use Rattle.cf_lane.specs.declared.lease.Lease.{Lease}
use Rattle.cf_lane.specs.declared.told.Told.{Told}
use Rattle.cf_schema.specs.declared.described.Schema.{Schema}
use Rattle.cf_plan.specs.Life.{Life}
use Rattle.cf_core.specs.Theorem.{HoldsAlways}
use Rattle.cf_book.specs.Events.{ParksCall, SettlesCall, outcome_by, reply_for}
use Rattle.cf_book.specs.Lives.{StandsFor}
use Rattle.cf_book.specs.Record.{Appends, IsUnwritten}
use Rattle.cf_book.specs.State.{BookLane, BookNow, IsOut, come_home}
use Rattle.cf_book.specs.declared.stop.StopFault.{StopFault}
use Rattle.cf_book.specs.declared.stop.StopFault.TheVariants as stop

-- the book has this lease out
abbrev pub HasOut : {H : Type 0} → HandlerGhosts H → List BookLane → Lease H → Type 0
HasOut g lanes lease = IsOut lanes (lane_now g (leased_lane lease)) (granted_of lease)

-- the lane came home from the call that the book has out: it made that one call, from the lane as it was lent
pub record IsBack (lanes : List BookLane) (lane : LaneNow) (told : Told) : Type 0 where
  pub before : LaneNow
  pub out : IsOut lanes before (granted_in told)
  pub called : IsCalled (granted_in told) before lane told

abbrev pub HasAnswer : {H : Type 0} → HandlerGhosts H → List BookLane → Answered H → Type 0
HasAnswer g lanes answered = IsBack lanes (lane_now g (answered_lane answered)) (told_of answered)

-- the call came too late: its lane takes calls of a later opening alone
abbrev pub IsStale : Answer → Type 0
IsStale (answer.Stale fence) = Unit {0}
IsStale _ = ⊥

-- In a life that the book stands for every lane is raised to the epoch of its calls, and none came too late.
abbrev pub ComesInTime : {D : Type 0} → BookNow D → Told → Type 0
ComesInTime b told = (life : Life) → StandsFor b life → IsStale told.answer → ⊥

-- what stays of the book where a lane comes home: all but that lane
pub record IsHome {D : Type 0} (old new : BookNow D) (lane : LaneNow) : Type 0 where
  pub lanes : new.lanes ≡ come_home lane old.lanes
  pub granted : new.has_granted ≡ old.has_granted

-- Why a call that came back was not settled, where nothing else had stopped the book: its answer is want of memory or too old, of the
-- lane at this place.
abbrev pub StopsCall : List BookLane → LaneNow → Told → StopFault → Type 0
StopsCall lanes lane told stop.NoMemory = told.answer ≡ answer.NoMemory
StopsCall lanes lane told (stop.LaneAhead place fence epoch) =
    (told.answer ≡ answer.Stale fence) × (epoch ≡ told.epoch)
    × (b : BookLane) × (slice_get lanes place ≡ Some b) × (b.lane.name ≡ lane.name)
StopsCall lanes lane told _ = ⊥

-- What settling answers, on a book that has not stopped: the outcome is appended, or it could not be; nothing is written of want of
-- memory and of a call that was too old.
abbrev pub SettlesReply : {D T : Type 0} → DiskGhosts D → BookNow D → BookNow D → LaneNow → Told → Option Reply → Result T StopFault
    → Type 0
SettlesReply g old new lane told (Some r) result = Appends g old new (outcome_by told r) result
SettlesReply g old new lane told None (Ok done) = ⊥
SettlesReply g old new lane told None (Err fault) = IsUnwritten old new × StopsCall old.lanes lane told fault

-- a stopped book answers what stopped it, and writes nothing
abbrev pub SettlesBy : {D T : Type 0} → DiskGhosts D → BookNow D → BookNow D → LaneNow → Told → Option StopFault → Result T StopFault
    → Type 0
SettlesBy g old new lane told None result = SettlesReply g old new lane told (reply_for told.answer) result
SettlesBy g old new lane told (Some fault) result = (result ≡ Err fault) × IsUnwritten old new

-- what stops the book after a call: what did before, or what the call answers
abbrev pub stopped_by : {T : Type 0} → Option StopFault → Result T StopFault → Option StopFault
stopped_by (Some fault) result = Some fault
stopped_by None (Ok x) = None
stopped_by None (Err fault) = Some fault

-- Which events of a life settling is. Where an outcome is to be written, it is settled, whole or broken; else it is parked.
abbrev pub SettlesLife : {D T : Type 0} → List Schema → Life → BookNow D → LaneNow → Told → Option StopFault → Option Reply
    → Result T StopFault → Type 0
SettlesLife schemas life new lane told None (Some r) result = SettlesCall schemas life new lane.name told r result
SettlesLife schemas life new lane told None None result = ParksCall schemas life new lane.name told
SettlesLife schemas life new lane told (Some fault) reply result = ParksCall schemas life new lane.name told

-- of every life that the book stands for, in which what the core promises holds
abbrev pub SettlesIn : {D T : Type 0} → List Schema → Life → BookNow D → BookNow D → LaneNow → Told → Result T StopFault → Type 0
SettlesIn schemas life old new lane told result =
    StandsFor old life → HoldsAlways schemas life → SettlesLife schemas life new lane told old.stopped (reply_for told.answer) result

-- the handlers of these lanes, in their order, as they are now; their logs are given up
abbrev pub AreHandlersOf : {H : Type 0} → HandlerGhosts H → List BookLane → List H → Type 0
AreHandlersOf g lanes handlers = map (λ h. lane_with g h []) handlers ≡ map (λ b. record b.lane { log = [] }) lanes
