-- Agreement in the life of an engine, and what holds at each moment of it (this project's own).
use Rattle.std.specs.Prelude.{◌≡◌, ℕ, false, ⊤, List, [], Option, Some, None, map}
use Rattle.cf_handler.specs.declared.settled.Settlement.{Settlement}
use Rattle.cf_handler.specs.Lane.{Live}
use Rattle.cf_schema.specs.declared.described.Schema.{Schema}
use Rattle.cf_entry.specs.declared.entry.Entry.{Entry}
use Rattle.cf_effect.specs.declared.held.Held.{Held}
use Rattle.cf_effect.specs.World.{StackState, World, stack_at}
use Rattle.cf_stacks.specs.Apart.{AreApart}
use Rattle.cf_plan.specs.Ends.{IsLive}
use Rattle.cf_tree.specs.Lists.{In}
use Rattle.cf_plan.specs.Life.{CallEnd, Life, Event, Act, Late, Raise, Park, Close, Crash, Settle, Opened, Repeat, End, world_of, life_after, Happens, settled_reply, Lease as Granted}
use Rattle.cf_agree.specs.Moves.{CallOut}
use Rattle.cf_agree.specs.Laws.{Agrees}
use Rattle.cf_core.specs.AccountOf.{account_of, lanes_of, held_in}
use Rattle.cf_core.specs.OneStack.{AreOwn}

-- the answer for good that a lease has
abbrev pub good_reply : Option CallEnd → Option Settlement
good_reply None = None
good_reply (Some r) = settled_reply r

abbrev pub lease_of : Granted → CallOut
lease_of l = record { token = l.token; lane = l.lane; request = l.request; reply = good_reply l.reply }

abbrev pub AgreesIn : Life → Type 0
AgreesIn life = Agrees (account_of life.entries (world_of life)) (lanes_of life.lanes) (map lease_of life.leases)

-- the lanes of the last opening have names of their own
abbrev pub LanesOnce : World → Type 0
LanesOnce x = (l m : List ℕ × List ℕ) → In l x.lanes → In m x.lanes → l.0 ≡ m.0 → l ≡ m

-- what holds of the stacks and of the lanes of the last opening, whatever the lanes hold
pub record IsOrderly (x : World) : Type 0 where
  pub apart : AreApart x
  pub own : AreOwn x.stacks
  pub once : LanesOnce x

-- what holds at each moment of a life
pub record IsSound (life : Life) : Type 0 where
  pub agrees : AgreesIn life
  pub orderly : IsOrderly (world_of life)

-- the events of lanes and leases
abbrev pub IsOfLanes : Event → Type 0
IsOfLanes (Act token reply left) = ⊤
IsOfLanes (Late lane place settlement) = ⊤
IsOfLanes (Raise lane answer moved before after) = ⊤
IsOfLanes (Park token) = ⊤
IsOfLanes Close = ⊤
IsOfLanes Crash = ⊤
IsOfLanes _ = ⊥

-- each of them keeps agreement
abbrev pub LanesKeep : Type 0
LanesKeep =
    (schemas : List Schema) (life : Life) (e : Event) → IsOfLanes e → Happens schemas life e → AgreesIn life
    → AgreesIn (life_after life e)

-- an opening, whole or broken
abbrev pub OpenedKeeps : Type 0
OpenedKeeps =
    (schemas : List Schema) (life : Life) (epoch : ℕ) (lanes : List (List ℕ × List ℕ)) (end : End)
    → Happens schemas life (Opened epoch lanes end) → IsSound life → IsSound (life_after life (Opened epoch lanes end))

-- an outcome that is written down, whole or broken, whichever call it is of and whatever was answered
abbrev pub SettleKeeps : Type 0
SettleKeeps =
    (schemas : List Schema) (life : Life) (token : ℕ) (e : Entry) (end : End) → Happens schemas life (Settle token e end)
    → IsSound life → IsSound (life_after life (Settle token e end))

-- a call that is made again
abbrev pub RepeatKeeps : Type 0
RepeatKeeps =
    (schemas : List Schema) (life : Life) (token : ℕ) → Happens schemas life (Repeat token) → IsSound life
    → IsSound (life_after life (Repeat token))

-- Where no call of a stack is open, what it holds is live: under its id, on the lane that the id names, with its type and, where
-- it is sure, its properties and attributes.
abbrev pub HeldIsLive : Type 0
HeldIsLive =
    (life : Life) (name : List ℕ) (s : StackState) (r : Held) → IsSound life → stack_at name (world_of life) ≡ Some s → s.tokens ≡ []
    → held_in r.physical s ≡ Some r
    → (v : Live) × IsLive life.lanes r v × (v.kind ≡ r.kind) × (r.unsure ≡ false → (v.props ≡ r.props) × (v.attrs ≡ r.attrs))
