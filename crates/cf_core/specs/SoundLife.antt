-- What holds at each moment of a life: journal and lanes agree, every stack fits, each call that is out has its row, and each
-- resource was made by a create that was answered (this project's own).
use Rattle.std.specs.Prelude.{◌≡◌, ℕ, List, [], Some, None, map}
use Rattle.cf_handler.specs.declared.settled.Settlement.TheVariants.{Success}
use Rattle.cf_tree.specs.Datum.{Data}
use Rattle.cf_schema.specs.declared.described.Schema.{Schema}
use Rattle.cf_entry.specs.declared.entry.Entry.{Entry}
use Rattle.cf_entry.specs.declared.entry.Entry.TheVariants as entry
use Rattle.cf_effect.specs.declared.call.Call.{Call}
use Rattle.cf_effect.specs.declared.held.Held.{Held}
use Rattle.cf_effect.specs.World.{StackState, World, empty_world, known_stack, stack_at}
use Rattle.cf_effect.specs.Words.{resources_of}
use Rattle.cf_effect.specs.Fold.{world_after}
use Rattle.cf_tree.specs.Lists.{In}
use Rattle.cf_plan.specs.Follow.{IsLegal}
use Rattle.cf_plan.specs.Lanes.{Lane, AreLanes, AreSchemas}
use Rattle.cf_plan.specs.Life.{Life, Event, End, Opened, ChangeSet, Begin, Grant, Settle, IsGoing, IsStart, Lease, Happens, life_after, tokens_out, world_of}
use Rattle.cf_agree.specs.Base.{named_by}
use Rattle.cf_agree.specs.Lanes.{IsThere}
use Rattle.cf_agree.specs.Account.{Called}
use Rattle.cf_agree.specs.Laws.{Agrees}
use Rattle.cf_core.specs.AccountOf.{account_of, call_in, lanes_of, told_in}
use Rattle.cf_core.specs.Fits.{IsWritten}
use Rattle.cf_core.specs.Fitting.{AllFit, AreSteady}
use Rattle.cf_core.specs.LifeAgrees.{IsOrderly, lease_of}

-- each row of a ledger is the call that the journal has
abbrev pub called_by : Call → Called
called_by c = record { path = c.path; lane = c.lane; request = c.request }

abbrev pub AreWritten : List Entry → World → Type 0
AreWritten es x =
    (name : List ℕ) (s : StackState) (c : Call) → stack_at name x ≡ Some s → In c s.ledger → call_in es c.token ≡ Some (called_by c)

-- a create that was answered for good made this id
abbrev pub IsMadeBy : List Entry → List ℕ → Type 0
IsMadeBy es id =
    (u : ℕ) × (c : Called) × (attrs : List (List ℕ × Data)) × (told_in es u ≡ Some (Success id attrs)) × (call_in es u ≡ Some c)
    × (named_by c.request ≡ None)

-- each resource was made so, and each id that a call names; and the lane of each call is there
pub record HaveOrigins (es : List Entry) (x : World) (lanes : List Lane) : Type 0 where
  pub made : (name : List ℕ) (s : StackState) (r : Held) → stack_at name x ≡ Some s → In r (resources_of s) → IsMadeBy es r.physical
  pub named : (t : ℕ) (c : Called) (id : List ℕ) → call_in es t ≡ Some c → named_by c.request ≡ Some id → IsMadeBy es id
  pub there : (t : ℕ) (c : Called) → call_in es t ≡ Some c → IsThere (lanes_of lanes) c.lane

-- all of it, of the entries, the world that they leave, the lanes and the calls that are out
pub record AreSound (schemas : List Schema) (es : List Entry) (x : World) (lanes : List Lane) (leases : List Lease) : Type 0 where
  pub agrees : Agrees (account_of es x) (lanes_of lanes) (map lease_of leases)
  pub orderly : IsOrderly x
  pub fitted : AllFit x
  pub written : AreWritten es x
  pub origins : HaveOrigins es x lanes
  pub going : (l : Lease) → In l leases → IsGoing x l
  pub legal : IsLegal schemas empty_world es
  pub named : AreLanes lanes
  pub described : AreSchemas schemas lanes

abbrev pub IsSoundLife : List Schema → Life → Type 0
IsSoundLife schemas life = AreSound schemas life.entries (world_of life) life.lanes life.leases

-- every event keeps it, where the course of each stack is as it has to be
abbrev pub EventKeeps : Type 0
EventKeeps =
    (schemas : List Schema) (life : Life) (e : Event) → Happens schemas life e → AreSteady (world_of life) → IsSoundLife schemas life
    → IsSoundLife schemas (life_after life e)

-- a start is so
abbrev pub StartIsSoundLife : Type 0
StartIsSoundLife = (schemas : List Schema) (life : Life) → IsStart schemas life → IsSoundLife schemas life

-- the entry that an event appends, and the calls that are out as it does
pub data Appends (life : Life) : Event → Entry → List ℕ → Type 0 where
  opened : {epoch : ℕ} {lanes : List (List ℕ × List ℕ)} {end : End} → Appends life (Opened epoch lanes end) (entry.Opened epoch lanes) []
  set : {e : Entry} {end : End} → Appends life (ChangeSet e end) e []
  begun : {e : Entry} {end : End} → Appends life (Begin e end) e (tokens_out life)
  granted : {e : Entry} {end : End} → Appends life (Grant e end) e (tokens_out life)
  settled : {token : ℕ} {e : Entry} {end : End} → Appends life (Settle token e end) e (tokens_out life)

-- and each entry that an event appends is written, for every stack that is there after it
abbrev pub EventWrites : Type 0
EventWrites =
    (schemas : List Schema) (life : Life) (ev : Event) (e : Entry) (out : List ℕ) → Appends life ev e out → Happens schemas life ev
    → AreSteady (world_of life) → IsSoundLife schemas life → (name : List ℕ) (t : StackState)
    → stack_at name (world_after (world_of life) e) ≡ Some t
    → IsWritten schemas (world_of life) out e name (known_stack name (world_of life)) t
