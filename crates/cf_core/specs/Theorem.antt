-- The theorem: whatever happens in the life of an engine, journal and lanes agree, and each stack keeps what its status promises
-- (this project's own; what a status says is that of the User Guide).
use Rattle.std.specs.Prelude.{◌≡◌, ℕ, true, List, Option, Some}
use Rattle.cf_tree.specs.Lists.{In}
use Rattle.cf_schema.specs.declared.described.Schema.{Schema}
use Rattle.cf_effect.specs.declared.held.Held.{Held}
use Rattle.cf_effect.specs.World.{StackState, World, stack_at, stack_of_operation}
use Rattle.cf_effect.specs.Words.{resources_of}
use Rattle.cf_effect.specs.Status.{goes_forward}
use Rattle.cf_plan.specs.Follow.{IsNamedLane}
use Rattle.cf_plan.specs.Life.{Event, IsLife, IsStart, Life, Happens, life_after, world_of}
use Rattle.cf_plan.specs.Promise.{AreKept}
use Rattle.cf_core.specs.GoesOn.{HasKinds, HasNext}
use Rattle.cf_core.specs.Hiding.{AreDescribed}
use Rattle.cf_core.specs.InFlight.{LeasesOpen}
use Rattle.cf_core.specs.More.{LeasesOnce, LeavesApart, SettlesOnce}
use Rattle.cf_core.specs.OnCourse.{IsOnWay}
use Rattle.cf_core.specs.SoundLife.{IsSoundLife}

-- what holds at every moment: journal and lanes agree, each type of a lane has its schema, each call that is out is open and no two are
-- of one token, no lane settles a token twice, what is left over of two stacks has no known id in common, and each stack is on its course
pub record HoldsAlways (schemas : List Schema) (life : Life) : Type 0 where
  pub sound : IsSoundLife schemas life
  pub described : AreDescribed schemas (world_of life)
  pub leases : LeasesOnce life
  pub in_flight : LeasesOpen life
  pub settles : SettlesOnce life
  pub leaves : LeavesApart (world_of life)
  pub way : (name : List ℕ) (s : StackState) → stack_at name (world_of life) ≡ Some s → IsOnWay schemas name (world_of life) s

-- From every start, after every list of events each of which may happen in its turn: agreement, and each status keeps its promise.
abbrev pub LivesKeepPromises : Type 0
LivesKeepPromises =
    (schemas : List Schema) (start end : Life) (events : List Event) → IsStart schemas start → IsLife schemas start events end
    → HoldsAlways schemas end × AreKept end

-- The same in steps, for those who hold one moment: a start is such a moment, each event that may happen, and so each list
-- of events, leads to another one, and at each the promises are kept.
abbrev pub StartHolds : Type 0
StartHolds = (schemas : List Schema) (life : Life) → IsStart schemas life → HoldsAlways schemas life

abbrev pub EventHolds : Type 0
EventHolds = (schemas : List Schema) (life : Life) (event : Event) → HoldsAlways schemas life → Happens schemas life event
    → HoldsAlways schemas (life_after life event)

abbrev pub EventsHold : Type 0
EventsHold = (schemas : List Schema) (life end : Life) (events : List Event) → HoldsAlways schemas life → IsLife schemas life events end
    → HoldsAlways schemas end × AreKept end

abbrev pub HoldsKeepsPromises : Type 0
HoldsKeepsPromises = (schemas : List Schema) (life : Life) → HoldsAlways schemas life → AreKept life

-- Each operation goes on until its end: where no call is out, some entry of it may follow, or some open call may be made again, as
-- long as each type that its template wants has a lane.
abbrev pub OperationsGoOn : Type 0
OperationsGoOn =
    (schemas : List Schema) (life : Life) (number : ℕ) (name : List ℕ) (s : StackState) → HoldsAlways schemas life
    → ◌≡◌ {A = Option (List ℕ × StackState)} (stack_of_operation number (world_of life)) (Some (name, s))
    → (goes_forward s.status ≡ true → HasKinds (world_of life) s) → HasNext schemas (world_of life) number

-- The last opening named the lane of each resource of a stack, with its type; and, while the stack goes forward, that of each resource
-- from before the operation.
pub record AreNamed (x : World) (s : StackState) : Type 0 where
  pub now : (h : Held) → In h (resources_of s) → IsNamedLane x.lanes h.physical h.kind
  pub before : goes_forward s.status ≡ true → (h : Held) → In h s.before → IsNamedLane x.lanes h.physical h.kind

abbrev pub LanesAreNamed : Type 0
LanesAreNamed =
    (schemas : List Schema) (life : Life) (name : List ℕ) (s : StackState) → HoldsAlways schemas life
    → stack_at name (world_of life) ≡ Some s → AreNamed (world_of life) s
