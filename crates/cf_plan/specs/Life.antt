-- The life of an engine (this project's own): openings, appends that end whole or broken, calls, late effects, crashes. Each event says
-- what it leaves.
use Rattle.std.specs.Prelude.{◌≡◌, ℕ, ◌==◌, ◌≤◌, Bool, true, false, not, List, [], ◌∷◌, ◌++◌, Option, Some, None, IsTrue, find, filter, map, option_map, if◌then◌else◌}
use Rattle.std.specs.Option.{option_or}
use Rattle.std.specs.Str.{bytes_eq}
use Rattle.cf_tree.specs.declared.request.Request.{Request}
use Rattle.cf_tree.specs.declared.request.Answer.{Answer}
use Rattle.cf_tree.specs.declared.request.Answer.TheVariants as answer
use Rattle.cf_handler.specs.declared.settled.Settlement.{Settlement}
use Rattle.cf_handler.specs.declared.settled.Settlement.TheVariants as settlement
use Rattle.cf_handler.specs.Lane.{live_of}
use Rattle.cf_handler.specs.Answered.{settlement_in}
use Rattle.cf_handler.specs.Move.{HasCause}
use Rattle.cf_handler.specs.declared.fence.FenceAnswer.{FenceAnswer}
use Rattle.cf_handler.specs.Fence.{FencedLane, CallMove, Left, left_by, late_by, LateMove, FenceMove, raised_to}
use Rattle.cf_entry.specs.declared.entry.Entry.{Entry}
use Rattle.cf_entry.specs.declared.entry.Entry.TheVariants as entry
use Rattle.cf_entry.specs.declared.entry.Reply.TheVariants as reply
use Rattle.cf_effect.specs.declared.held.Pending.{Pending}
use Rattle.cf_effect.specs.World.{StackState, World, stack_at, empty_world}
use Rattle.cf_effect.specs.Status.{Stage, stage_of, is_in_progress}
use Rattle.cf_effect.specs.Words.{has_token}
use Rattle.cf_effect.specs.Fold.{fold_of}
use Rattle.cf_effect.specs.declared.call.Call.{Call}
use Rattle.cf_effect.specs.Calls.{call_under}
use Rattle.cf_tree.specs.Named.{all_differ}
use Rattle.cf_tree.specs.Lists.{In}
use Rattle.cf_plan.specs.Follow.{MayFollow, MayRepeat, is_lane_leased}
use Rattle.cf_schema.specs.declared.described.Schema.{Schema}
use Rattle.cf_plan.specs.Lanes.{Lane, AreLanes, AreSchemas, lane_at}

-- what a call came to: an answer, with the lane's counts of faults before and after it
pub data CallEnd : Type 0 where
  Answered : (answer : Answer) (before after : ℕ) → CallEnd

-- a call that was granted, and what it came to
pub record Lease : Type 0 where
  pub number : ℕ
  pub token : ℕ
  pub lane : List ℕ
  pub request : Request
  pub reply : Option CallEnd

pub record Life : Type 0 where
  pub entries : List Entry
  pub lanes : List Lane
  pub leases : List Lease
  pub is_open : Bool
  pub has_granted : Bool
  pub is_stopped : Bool

-- an append ends whole, or broken, with or without its entry
pub data End : Type 0 where
  Whole : End
  BrokenWith : End
  BrokenWithout : End

pub data Event : Type 0 where
  Opened : (epoch : ℕ) (lanes : List (List ℕ × List ℕ)) (end : End) → Event
  ChangeSet : (entry : Entry) (end : End) → Event
  Begin : (entry : Entry) (end : End) → Event
  Grant : (entry : Entry) (end : End) → Event
  Repeat : (token : ℕ) → Event
  Settle : (token : ℕ) (entry : Entry) (end : End) → Event
  Park : (token : ℕ) → Event
  Raise : (lane : List ℕ) (answer : FenceAnswer) (moved : Bool) (before after : ℕ) → Event
  Act : (token : ℕ) (reply : CallEnd) (left : Left) → Event
  Late : (lane : List ℕ) (place : ℕ) (settlement : Settlement) → Event
  Close : Event
  Crash : Event

-- the world of the entries
abbrev pub world_of : Life → World
world_of life = fold_of empty_world life.entries

abbrev pub tokens_out : Life → List ℕ
tokens_out life = map (λ l. l.token) life.leases

abbrev pub is_running : Life → Bool
is_running life = if life.is_open then not life.is_stopped else false

-- the life after an append
abbrev pub appended : End → Entry → Life → Life
appended Whole e life = record life { entries = life.entries ++ e ∷ [] }
appended BrokenWith e life = record life { entries = life.entries ++ e ∷ []; is_stopped = true }
appended BrokenWithout e life = record life { is_stopped = true }

abbrev pub lease_at : ℕ → Life → Option Lease
lease_at token life = find (λ l. token == l.token) life.leases

abbrev pub without_lease : ℕ → Life → Life
without_lease token life = record life { leases = filter (λ l. not (token == l.token)) life.leases }

abbrev pub with_lease : Lease → Life → Life
with_lease lease life = record life { leases = life.leases ++ lease ∷ []; has_granted = true }

abbrev pub lease_replying : ℕ → CallEnd → Lease → Lease
lease_replying token reply l = if token == l.token then record l { reply = Some reply } else l

abbrev pub replied_to : ℕ → CallEnd → Life → Life
replied_to token reply life = record life { leases = map (lease_replying token reply) life.leases }

-- the lane of a name, changed
abbrev pub changed : List ℕ → (FencedLane → FencedLane) → Lane → Lane
changed name change l = if bytes_eq name l.name then record l { state = change l.state } else l

abbrev pub lane_changing : List ℕ → (FencedLane → FencedLane) → Life → Life
lane_changing name change life = record life { lanes = map (changed name change) life.lanes }

-- what the holder of a lease leaves on its lane
abbrev pub lane_acted : Left → Option Lease → Life → Life
lane_acted left None life = life
lane_acted left (Some l) life = lane_changing l.lane (left_by left (world_of life).epoch l.token l.request) life

-- a granted Intent's call goes out, if its append was whole; every other entry hands out nothing
abbrev pub granted : End → Entry → Life → Life
granted Whole (entry.Intent number token lane path request) life =
    with_lease (record { number = number; token = token; lane = lane; request = request; reply = None }) life
granted _ e life = life

-- which entries each part of the engine appends
abbrev pub IsBegin : Entry → Type 0
IsBegin (entry.Begin number stack kind) = Unit {0}
IsBegin _ = ⊥

abbrev pub IsChangeSet : Entry → Type 0
IsChangeSet (entry.ChangeSet number stack source rows outputs) = Unit {0}
IsChangeSet _ = ⊥

abbrev pub IsGranted : Entry → Type 0
IsGranted (entry.Intent number token lane path request) = Unit {0}
IsGranted (entry.Kept number path physical why) = Unit {0}
IsGranted (entry.Phase number phase cause) = Unit {0}
IsGranted (entry.Done number status failed) = Unit {0}
IsGranted _ = ⊥

-- the outcome that a lease's answer makes: a fault is a doubt, and want of memory and a stale call make none
abbrev pub IsOutcomeOf : Lease → CallEnd → Entry → Type 0
IsOutcomeOf lease (Answered (answer.Success physical attrs) before after) e =
    e ≡ entry.Outcome lease.number lease.token (reply.Success physical attrs) before after
IsOutcomeOf lease (Answered (answer.Failed code) before after) e =
    e ≡ entry.Outcome lease.number lease.token (reply.Failed code) before after
IsOutcomeOf lease (Answered answer.Fault before after) e = e ≡ entry.Outcome lease.number lease.token reply.Doubt before after
IsOutcomeOf lease (Answered (answer.Stale fence) before after) e = ⊥
IsOutcomeOf lease (Answered answer.NoMemory before after) e = ⊥

-- the open call of a token of this stack, at this stage, may be made again
pub record MayBeRepeated (schemas : List Schema) (life : Life) (token : ℕ) (name : List ℕ) (s : StackState) (stage : Stage)
    (p : Pending) : Type 0 where
  pub stands : stack_at name (world_of life) ≡ Some s
  pub at_stage : stage_of s.status ≡ Some stage
  pub of_token : p.token ≡ token
  pub at_home : is_lane_leased (tokens_out life) (world_of life) p.lane ≡ false
  pub may : MayRepeat schemas name (world_of life) (tokens_out life) s stage p

-- how an opening names a lane
abbrev pub named_lane : Lane → List ℕ × List ℕ
named_lane l = (l.name, l.kind)

-- the lanes that an opening hands in are some of those that there are, no two the same
pub record AreHandedIn (life : Life) (lanes : List (List ℕ × List ℕ)) : Type 0 where
  pub there_are : (n : List ℕ × List ℕ) → In n lanes → (l : Lane) × (lane_at n.0 life.lanes ≡ Some l) × (n ≡ named_lane l)
  pub once : all_differ bytes_eq (map (λ n. n.0) lanes) ≡ true

-- every lane that was handed in was raised in this opening
abbrev pub AreRaised : Life → Type 0
AreRaised life = (l : Lane) → In l life.lanes → In (named_lane l) (world_of life).lanes → l.state.fence ≡ (world_of life).epoch

-- the open call of a token, as its lease has it
abbrev pub lease_for : ℕ → Pending → Lease
lease_for number p = record { number = number; token = p.token; lane = p.lane; request = p.request; reply = None }

abbrev pub again_in : ℕ → StackState → Option Lease
again_in token s = option_map (lease_for s.operation) (find (has_token token) s.tokens)

abbrev pub first_again : ℕ → List (List ℕ × StackState) → Option Lease
first_again token [] = None
first_again token (s ∷ ss) = option_or (again_in token s.1) (first_again token ss)

-- a repeat hands the call out again
abbrev pub repeated : Option Lease → Life → Life
repeated None life = life
repeated (Some l) life = with_lease l life

-- The life after an event.
abbrev pub life_after : Life → Event → Life
life_after life (Opened epoch lanes end) =
    appended end (entry.Opened epoch lanes) (record life { leases = []; is_open = true; has_granted = false; is_stopped = false })
life_after life (ChangeSet e end) = record (appended end e life) { is_stopped = false }
life_after life (Begin e end) = appended end e life
life_after life (Grant e end) = granted end e (appended end e life)
life_after life (Repeat token) = repeated (first_again token (world_of life).stacks) life
life_after life (Settle token e end) = without_lease token (appended end e life)
life_after life (Park token) = without_lease token life
life_after life (Raise name a moved before counted) =
    if moved then lane_changing name (λ l. raised_to l (world_of life).epoch) life else life
life_after life (Act token reply left) = replied_to token reply (lane_acted left (lease_at token life) life)
life_after life (Late name place s) = lane_changing name (late_by place s) life
life_after life Close = record life { is_open = false; is_stopped = false }
life_after life Crash = record life { leases = []; is_open = false; has_granted = false; is_stopped = false }

-- A call that comes to this may leave its lane so.
abbrev pub MayLeave : Lane → FencedLane → ℕ → Lease → CallEnd → Type 0
MayLeave lane after epoch lease (Answered a before counted) =
    HasCause before counted a × CallMove lane.name lane.state after epoch lease.token lease.request a

-- the fence of a lane, moved or not
abbrev pub fenced : Bool → ℕ → FencedLane → FencedLane
fenced moved epoch lane = if moved then raised_to lane epoch else lane

-- An event may come where it does.
abbrev pub Happens : List Schema → Life → Event → Type 0
Happens schemas life (Opened epoch lanes end) =
    (life.is_open ≡ false) × MayFollow schemas (world_of life) [] (entry.Opened epoch lanes) × AreHandedIn life lanes
Happens schemas life (ChangeSet e end) = (life.is_open ≡ false) × IsChangeSet e × MayFollow schemas (world_of life) [] e
Happens schemas life (Begin e end) =
    IsTrue (is_running life) × AreRaised life × IsBegin e × MayFollow schemas (world_of life) (tokens_out life) e
Happens schemas life (Grant e end) = IsTrue (is_running life) × IsGranted e × MayFollow schemas (world_of life) (tokens_out life) e
Happens schemas life (Repeat token) =
    IsTrue (is_running life) × (name : List ℕ) × (s : StackState) × (stage : Stage) × (p : Pending)
    × MayBeRepeated schemas life token name s stage p
Happens schemas life (Settle token e end) =
    IsTrue (is_running life) × (lease : Lease) × (reply : CallEnd) × (lease_at token life ≡ Some lease) × (lease.reply ≡ Some reply)
    × IsOutcomeOf lease reply e × MayFollow schemas (world_of life) (tokens_out life) e
Happens schemas life (Park token) = IsTrue life.is_open × (lease : Lease) × (lease_at token life ≡ Some lease)
Happens schemas life (Raise name a moved before counted) =
    IsTrue (is_running life) × (life.has_granted ≡ false) × (lane : Lane) × (lane_at name life.lanes ≡ Some lane)
    × In (named_lane lane) (world_of life).lanes × (before ≤ counted)
    × FenceMove lane.state (fenced moved (world_of life).epoch lane.state) (world_of life).epoch a before counted
Happens schemas life (Act token reply left) =
    (lease : Lease) × (lane : Lane) × (lease_at token life ≡ Some lease) × (lease.reply ≡ None)
    × (lane_at lease.lane life.lanes ≡ Some lane)
    × MayLeave lane (left_by left (world_of life).epoch lease.token lease.request lane.state) (world_of life).epoch lease reply
Happens schemas life (Late name place s) =
    (lane : Lane) × (lane_at name life.lanes ≡ Some lane) × LateMove name lane.state (late_by place s lane.state) place s
Happens schemas life Close = IsTrue life.is_open × (life.leases ≡ [])
Happens schemas life Crash = Unit {0}

-- each event comes in its turn, and this is the end
abbrev pub IsLife : List Schema → Life → List Event → Life → Type 0
IsLife schemas life [] end = end ≡ life
IsLife schemas life (e ∷ es) end = Happens schemas life e × IsLife schemas (life_after life e) es end

-- the answer for good of a call that came to its end
abbrev pub settled_reply : CallEnd → Option Settlement
settled_reply (Answered a before after) = settlement_in a

-- A call that is out is of the operation in progress of its stack, also where its token was given up meanwhile: so its
-- lane counts as out, and the operation does not end before it is back.
pub record IsGoing (x : World) (lease : Lease) : Type 0 where
  pub name : List ℕ
  pub stack : StackState
  pub call : Call
  pub stands : stack_at name x ≡ Some stack
  pub in_progress : is_in_progress stack.status ≡ true
  pub number : stack.operation ≡ lease.number
  pub written : call_under lease.token stack ≡ Some call
  pub lane : call.lane ≡ lease.lane

-- a new journal, over lanes on which nothing was ever called or is live
pub record IsStart (schemas : List Schema) (life : Life) : Type 0 where
  pub no_entries : life.entries ≡ []
  pub closed : life.is_open ≡ false
  pub no_leases : life.leases ≡ []
  pub named : AreLanes life.lanes
  pub described : AreSchemas schemas life.lanes
  pub untouched : (l : Lane) → In l life.lanes → (l.state.state.settled ≡ []) × (l.state.flying ≡ []) × (l.state.fence ≡ 0)
      × (live_of l.state.state ≡ [])
