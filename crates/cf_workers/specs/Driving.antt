-- How one thread drives an operation (this project's own): it writes the step that comes next; where that is a call, it makes the call on
-- its lane and writes the outcome; and so on until the end, or until the book stops.
use Rattle.std.specs.Prelude.{◌≡◌, ◌⊎◌, ℕ, ◌+◌, ◌==◌, ◌<◌, ◌≤◌, Bool, true, false, List, [], ◌∷◌, ◌++◌, Option, Some, None, IsTrue, filter, filter_map, if◌then◌else◌, map, option_map, slice_get}
use Rattle.std.specs.Str.{bytes_eq}
use Rattle.cf_tree.specs.Lists.{In}
use Rattle.cf_tree.specs.Named.{all_differ}
use Rattle.cf_tree.specs.declared.request.Request.{Request}
use Rattle.cf_disk.specs.Disk.{LeavesOnly}
use Rattle.cf_disk.specs.declared.disk.Disk.{Ghosts}
use Rattle.cf_schema.specs.declared.described.Schema.{Schema}
use Rattle.cf_entry.specs.declared.entry.Entry.{Entry}
use Rattle.cf_entry.specs.declared.entry.Entry.TheVariants as entry
use Rattle.cf_entry.specs.declared.entry.Reply.{Reply}
use Rattle.cf_entry.specs.declared.status.Status.{Status}
use Rattle.cf_journal.specs.Record.{length_of}
use Rattle.cf_effect.specs.Fold.{is_intent}
use Rattle.cf_effect.specs.Words.{resources_of}
use Rattle.cf_effect.specs.World.{StackState}
use Rattle.cf_effect.specs.declared.held.Held.{Held}
use Rattle.cf_effect.specs.declared.held.Pending.{Pending}
use Rattle.cf_lane.specs.Calling.{IsCalled, granted_in}
use Rattle.cf_lane.specs.Lanes.{LaneNow}
use Rattle.cf_lane.specs.declared.told.Told.{Told}
use Rattle.cf_next.specs.Chosen.{entry_for, schemas_of}
use Rattle.cf_plan.specs.Follow.{MayFollow}
use Rattle.cf_plan.specs.Forward.{wanted_paths}
use Rattle.cf_plan.specs.Life.{Life}
use Rattle.cf_next.specs.declared.step.Next.{Next}
use Rattle.cf_next.specs.declared.step.Next.TheVariants as next
use Rattle.cf_book.specs.Calls.{StopsCall}
use Rattle.cf_book.specs.Ended.{end_status, ended_in}
use Rattle.cf_book.specs.Events.{outcome_by, reply_for}
use Rattle.cf_book.specs.Granting.{ComesNext, HasBegun, IsDurable, IsLacking, IsStill, NeverStuck}
use Rattle.cf_book.specs.Record.{Fits, HasFaulted, KeepsDisk, KnowsDisk, need_of, with_doubt, world_left}
use Rattle.cf_book.specs.State.{BookLane, BookNow, NoneOut, at_home, come_home, home_of}
use Rattle.cf_book.specs.declared.stop.StopFault.{StopFault}
use Rattle.cf_book.specs.declared.stop.StopFault.TheVariants as stop
use Rattle.cf_workers.specs.Growing.{IsBetween}
use Rattle.cf_workers.specs.declared.drive.Drove.{Drove}
use Rattle.cf_workers.specs.declared.drive.Drove.TheVariants.{Over, Stopped}

-- the names of the lanes of a book
abbrev pub names_of : List BookLane → List (List ℕ)
names_of lanes = map (λ b. b.lane.name) lanes

-- Nothing has stopped the book, no call is out and nothing is in doubt: every file that a crash then may leave has just its entries. No two
-- of its lanes have one name.
pub record IsAtRest {D : Type 0} (g : Ghosts D) (b : BookNow D) : Type 0 where
  pub running : b.stopped ≡ None
  pub none_out : NoneOut b.lanes
  pub certain : b.doubt ≡ None
  pub known : KnowsDisk g b
  pub differ : all_differ bytes_eq (names_of b.lanes) ≡ true

-- At each moment between two books a crash leaves no less than the entries of the first, and no more than those of the second, with the one
-- that is in doubt then.
abbrev pub Grows : {D : Type 0} → Ghosts D → BookNow D → BookNow D → Type 0
Grows g old new =
    IsTrue g.tells → LeavesOnly g.moment g.left_since old.disk new.disk (IsBetween old.entries (with_doubt new.entries new.doubt))

-- The call that comes next, as it was made: on its lane, which was at home.
pub record CallMade (number : ℕ) (es : List Entry) (lanes : List BookLane) : Type 0 where
  pub path : List ℕ
  pub token : ℕ
  pub request : Request
  pub repeated : Bool
  pub lane : LaneNow
  pub chosen : ComesNext lanes es number (next.Step path lane.name token request repeated)
  pub home : In (at_home lane) lanes
  pub after : LaneNow
  pub told : Told
  pub called :
      IsCalled (record { epoch = (world_left es).epoch; number = number; token = token; request = request }) lane after told

-- the call as a step; the entries with its Intent, which of a call that is made again stands among them already
abbrev pub step_of : {number : ℕ} {es : List Entry} {lanes : List BookLane} → CallMade number es lanes → Next
step_of c = next.Step c.path c.lane.name c.token c.request c.repeated

abbrev pub intended : {number : ℕ} {es : List Entry} {lanes : List BookLane} → CallMade number es lanes → List Entry
intended {number} {es} c = with_doubt es (entry_for number (step_of c))

-- The call is made while it is open, its Intent being there, in the journal and in whatever a crash then may leave of it; and there its
-- entries stay. For an Intent that is new there was room.
pub record IsIntended {D : Type 0} (g : Ghosts D) (number : ℕ) (old new : BookNow D) (made : CallMade number old.entries old.lanes) : Type 0
  where
    pub lent : BookNow D
    pub entries : lent.entries ≡ intended made
    pub fits : (e : Entry) → entry_for number (step_of made) ≡ Some e → Fits g old.disk e
    pub certain : lent.doubt ≡ None
    pub durable : IsDurable g lent made.lane.name (granted_in made.told)
    pub before : Grows g old lent
    pub after : Grows g lent new

-- The outcome of the call may follow while the call is out, and there was room for it.
pub record IsOutcome {D : Type 0} (g : Ghosts D) (number : ℕ) (old : BookNow D) (made : CallMade number old.entries old.lanes)
    (lent : BookNow D) (r : Reply) : Type 0 where
  pub reply : reply_for made.told.answer ≡ Some r
  pub follows : MayFollow (schemas_of (map home_of old.lanes)) (world_left (intended made)) (made.token ∷ []) (outcome_by made.told r)
  pub fits : Fits g lent.disk (outcome_by made.told r)

-- A round of a run: the step that comes next is written, for which there was room, or its call is made and the outcome written.
pub data Round {D : Type 0} (g : Ghosts D) (number : ℕ) (old new : BookNow D) : Type 0 where
  moves :
      (n : Next) (e : Entry) → ComesNext old.lanes old.entries number n → entry_for number n ≡ Some e → is_intent e ≡ false
      → Fits g old.disk e → new.entries ≡ old.entries ++ e ∷ [] → new.lanes ≡ old.lanes → Round g number old new
  calls :
      (made : CallMade number old.entries old.lanes) (r : Reply) (intends : IsIntended g number old new made)
      → IsOutcome g number old made intends.lent r → new.entries ≡ intended made ++ outcome_by made.told r ∷ []
      → new.lanes ≡ come_home made.after old.lanes → Round g number old new

-- The course of a run, round by round.
pub data Course {D : Type 0} (g : Ghosts D) (number : ℕ) (first : BookNow D) : BookNow D → Type 0 where
  begins : Course g number first first
  goes :
      {old new : BookNow D} → Course g number first old → Round g number old new → Grows g old new → IsAtRest g new
      → Course g number first new

-- Why an entry could not be written to this disk: there is no room for it; or there was, but the disk failed, and may have it.
abbrev pub CouldNotWrite : {D : Type 0} → Ghosts D → D → BookNow D → BookNow D → Entry → StopFault → Type 0
CouldNotWrite g disk old new e (stop.Full l need room) =
    (new.doubt ≡ None) × (IsTrue g.tells → length_of (g.seen new.disk) ≡ l) × (need ≡ need_of e) × (room ≡ g.room_of new.disk)
    × (room < l + need)
CouldNotWrite g disk old new e stop.DiskFault = HasFaulted (g.count old.disk) (g.count new.disk) × (new.doubt ≡ Some e) × Fits g disk e
CouldNotWrite g disk old new e _ = ⊥

-- Memory is lacking, or a number to count with; or no step may start, which never comes where journal and lanes agree and each type that
-- the template wants has a lane.
pub record LacksStep {D : Type 0} (number : ℕ) (b : BookNow D) : Type 0 where
  pub lacking : IsLacking b.lanes b.entries number
  pub never : (schemas : List Schema) (life : Life) → NeverStuck schemas life b number

-- The book stops before the step that comes next, or for want of memory, and no lane is called.
abbrev pub StopsBefore : {D : Type 0} → Ghosts D → ℕ → BookNow D → BookNow D → StopFault → Type 0
StopsBefore g number old new fault =
    (new.entries ≡ old.entries) × (new.lanes ≡ old.lanes)
    × (((fault ≡ stop.NoMemory) × (new.doubt ≡ None) × LacksStep number old)
    ⊎ ((n : Next) × (e : Entry) × ComesNext old.lanes old.entries number n × (entry_for number n ≡ Some e)
    × CouldNotWrite g old.disk old new e fault))

-- why the outcome of a call is not there: it could not be written, or the answer has none
abbrev pub LacksOutcome : {D : Type 0} → Ghosts D → D → BookNow D → BookNow D → LaneNow → Told → Option Reply → StopFault → Type 0
LacksOutcome g disk old new lane told (Some r) fault = CouldNotWrite g disk old new (outcome_by told r) fault
LacksOutcome g disk old new lane told None fault = (new.doubt ≡ None) × StopsCall new.lanes lane told fault

-- The book stops after a call, whose outcome is not written.
abbrev pub StopsAfter : {D : Type 0} → Ghosts D → ℕ → BookNow D → BookNow D → StopFault → Type 0
StopsAfter g number old new fault =
    (made : CallMade number old.entries old.lanes) × (intends : IsIntended g number old new made) × (new.entries ≡ intended made)
    × (new.lanes ≡ come_home made.after old.lanes)
    × LacksOutcome g intends.lent.disk old new made.after made.told (reply_for made.told.answer) fault

abbrev pub Stops : {D : Type 0} → Ghosts D → ℕ → BookNow D → BookNow D → StopFault → Type 0
Stops g number old new fault =
    (new.stopped ≡ Some fault) × NoneOut new.lanes × KnowsDisk g new
    × (StopsBefore g number old new fault ⊎ StopsAfter g number old new fault)

-- the operation's end stands, with this status, since the opening; and it is the last entry
abbrev pub HasEnd : List Entry → ℕ → Status → Type 0
HasEnd es number status = end_status number (ended_in es) ≡ Some status

pub record EndsWith (es : List Entry) (number : ℕ) (status : Status) : Type 0 where
  pub front : List Entry
  pub failed : List (List ℕ)
  pub last : es ≡ front ++ entry.Done number status failed ∷ []

-- What a run comes to: the operation's end, which is the last entry unless it stood before the run; or what stops the book in the round after
-- its course, and what a crash leaves in that.
abbrev pub DrivesTo : {D : Type 0} → Ghosts D → ℕ → BookNow D → BookNow D → Drove → Type 0
DrivesTo g number old new (Over status) =
    Course g number old new × IsAtRest g new × HasEnd new.entries number status
    × (HasEnd old.entries number status ⊎ EndsWith new.entries number status)
DrivesTo {D} g number old new (Stopped fault) =
    (last : BookNow D) × Course g number old last × Stops g number last new fault × KeepsDisk g old last × Grows g last new

-- One round, after which the run goes on, and no operation has ended in it; or what the run comes to in it.
abbrev pub RoundTells : {D : Type 0} → Ghosts D → ℕ → BookNow D → BookNow D → Option Drove → Type 0
RoundTells g number old new None =
    Round g number old new × IsAtRest g new × HasBegun new.entries number × (ended_in new.entries ≡ ended_in old.entries)
RoundTells g number old new (Some (Over status)) =
    IsAtRest g new × HasEnd new.entries number status
    × ((Round g number old new × EndsWith new.entries number status) ⊎ (IsStill old new × HasEnd old.entries number status))
RoundTells g number old new (Some (Stopped fault)) = Stops g number old new fault

-- A call of a run: the path that it is of, the lane that it was made on, and what was told of it.
pub record CallAt : Type 0 where
  pub path : List ℕ
  pub lane : List ℕ
  pub told : Told

abbrev pub call_at : {number : ℕ} {es : List Entry} {lanes : List BookLane} → CallMade number es lanes → CallAt
call_at c = record { path = c.path; lane = c.lane.name; told = c.told }

-- The calls of a course in their order.
abbrev pub calls_of : {D : Type 0} {g : Ghosts D} {number : ℕ} {first last : BookNow D} → Course g number first last → List CallAt
calls_of Course.begins = []
calls_of (Course.goes course (Round.moves n e next writes other fits wrote lanes) grows rest) = calls_of course
calls_of (Course.goes course (Round.calls made r intends outcome wrote lanes) grows rest) = calls_of course ++ call_at made ∷ []

-- the entry begins a phase, or is an operation's end
abbrev pub ends_phase : Entry → Bool
ends_phase (entry.Phase number p cause) = true
ends_phase (entry.Done number status failed) = true
ends_phase e = false

-- how often a call was made since the phase began, or since its Intent: with one that is made now, and in a course
abbrev pub tries_with : {number : ℕ} {es : List Entry} {lanes : List BookLane} → CallMade number es lanes → ℕ → ℕ → ℕ
tries_with made token tries = if made.token == token then if made.repeated then tries + 1 else 1 else tries

abbrev pub tries_of : {D : Type 0} {g : Ghosts D} {number : ℕ} {first last : BookNow D} → ℕ → Course g number first last → ℕ
tries_of token Course.begins = 0
tries_of token (Course.goes course (Round.moves n e next writes other fits wrote lanes) grows rest) =
    if ends_phase e then 0 else tries_of token course
tries_of token (Course.goes course (Round.calls made r intends outcome wrote lanes) grows rest) =
    tries_with made token (tries_of token course)

-- the outcome that an answer has; the outcomes among entries
abbrev pub outcome_in : CallAt → Option Entry
outcome_in c = option_map (outcome_by c.told) (reply_for c.told.answer)

abbrev pub is_outcome : Entry → Bool
is_outcome (entry.Outcome number token answer before after) = true
is_outcome e = false

-- the calls on the lane of a name
abbrev pub calls_on : List ℕ → List CallAt → List Told
calls_on name cs = filter_map (λ c. if bytes_eq name c.lane then Some c.told else None) cs

-- Counts that follow one another: each call's lie between those of the calls around it.
abbrev pub AreInTurn : ℕ → List Told → ℕ → Type 0
AreInTurn first [] last = first ≤ last
AreInTurn first (t ∷ ts) last = (first ≤ t.before) × (t.before ≤ t.after) × AreInTurn t.after ts last

-- a lane after these calls: they are behind its log, in order, and their counts lie between the lane's
pub record HasAnswered (was now : LaneNow) (calls : List Told) : Type 0 where
  pub name : now.name ≡ was.name
  pub log : now.log ≡ was.log ++ calls
  pub counts : AreInTurn was.count calls now.count

-- A path of a stack: its template wants the path, a resource of the path is held or made, or was held before the operation, or a call is
-- open there.
pub data IsPathOf (s : StackState) (path : List ℕ) : Type 0 where
  wanted : In path (wanted_paths s) → IsPathOf s path
  there_is : (h : Held) → In h (resources_of s) → h.path ≡ path → IsPathOf s path
  there_was : (h : Held) → In h s.before → h.path ≡ path → IsPathOf s path
  is_open : (p : Pending) → In p s.tokens → p.path ≡ path → IsPathOf s path

-- The outcomes that a course has written are the answers of its calls, in order; each lane's log has the calls that were made on it; and no
-- call was made more than three times in a phase, nor is it so with the one that comes next. That one is at a path of its stack.
pub record TellsCalls {D : Type 0} {g : Ghosts D} {number : ℕ} {first last : BookNow D} (course : Course g number first last) : Type 0 where
  pub outcomes : filter is_outcome last.entries ≡ filter is_outcome first.entries ++ filter_map outcome_in (calls_of course)
  pub logs : (k : ℕ) (was : BookLane) → slice_get first.lanes k ≡ Some was → (now : BookLane) × (slice_get last.lanes k ≡ Some now)
      × HasAnswered was.lane now.lane (calls_on was.lane.name (calls_of course))
  pub thrice : (token : ℕ) → tries_of token course ≤ 3
  pub at_most : (made : CallMade number last.entries last.lanes) → tries_with made made.token (tries_of made.token course) ≤ 3
  pub of_stack : (made : CallMade number last.entries last.lanes) → IsPathOf made.chosen.1 made.path

-- the same lanes, by name and schema, in the same order
abbrev pub name_and_schema : BookLane → List ℕ × Schema
name_and_schema b = (b.lane.name, b.lane.schema)

abbrev pub AreSameLanes : List BookLane → List BookLane → Type 0
AreSameLanes old new = map name_and_schema new ≡ map name_and_schema old
