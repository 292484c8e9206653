-- Where a forward phase is completed, its stack holds what its template wants. It keeps that while it cleans up and at rest, until
-- the next operation begins on it, and with what is live of it this is what its status promises (this project's own laws).
use Rattle.std.specs.Prelude.{◌≡◌, ◌≢◌, ◌⊎◌, ℕ, ◌↔◌, ⊤, false, List, [], Option, Some, None, find}
use Rattle.std.specs.Option.{option_or}
use Rattle.cf_tree.specs.declared.source.Source.{Source}
use Rattle.cf_export.specs.declared.Export.{Export}
use Rattle.cf_entry.specs.declared.entry.Entry.{Entry}
use Rattle.cf_entry.specs.declared.entry.Entry.TheVariants as entry
use Rattle.cf_entry.specs.declared.status.Status.TheVariants as status
use Rattle.cf_entry.specs.declared.turn.Cause.{Cause}
use Rattle.cf_entry.specs.declared.turn.Phase.TheVariants as phase
use Rattle.cf_schema.specs.declared.described.Schema.{Schema}
use Rattle.cf_handler.specs.Lane.{Live}
use Rattle.cf_desired.specs.Shape.{shape_of}
use Rattle.cf_effect.specs.declared.held.Held.{Held}
use Rattle.cf_effect.specs.declared.held.Pending.{Pending}
use Rattle.cf_effect.specs.World.{StackState, World}
use Rattle.cf_effect.specs.Words.{has_physical}
use Rattle.cf_effect.specs.Status.{reviewed, stage_of}
use Rattle.cf_effect.specs.Begin.{seen_in}
use Rattle.cf_effect.specs.End.{seen_now}
use Rattle.cf_effect.specs.Fold.{world_after}
use Rattle.cf_plan.specs.Accept.{exports_in}
use Rattle.cf_plan.specs.Ends.{IsCleared, IsComplete, IsLive, IsRestored}
use Rattle.cf_tree.specs.Lists.{In}
use Rattle.cf_plan.specs.Lanes.{Lane}
use Rattle.cf_plan.specs.Promise.{Promised}
use Rattle.cf_core.specs.Advancing.{IsAdvancing}
use Rattle.cf_core.specs.Back.{IsBackAll}
use Rattle.cf_core.specs.Course.{IsOnCourse}
use Rattle.cf_core.specs.Fits.{Fits, IsWritten}
use Rattle.cf_core.specs.Whole.{DeletesSuperseded, HoldsWhole, IsHeldAtRest}

-- the shape over what is seen now is that over what was held before
abbrev pub ShapeIsKept : StackState → Source → Type 0
ShapeIsKept s source = shape_of source (seen_now s) ≡ shape_of source (seen_in s.before)

-- Where the entry is of this stack, whose status it changes: an update whose forward phase is completed holds what its template
-- wants, and no call is open
abbrev pub UpdateIsWhole : Type 0
UpdateIsWhole =
    (schemas : List Schema) (x : World) (out : List ℕ) (number : ℕ) (why : Option Cause) (name : List ℕ) (s t : StackState) (source :
    Source)
    → IsWritten schemas x out (entry.Phase number phase.Clean why) name s t → s.status ≢ t.status → IsAdvancing schemas s source
    → ShapeIsKept s source
    → HoldsWhole name (world_after x (entry.Phase number phase.Clean why)) t × (s.tokens ≡ []) × (t.tokens ≡ [])

-- so does a creation that is completed, and it is at rest
abbrev pub CreationIsWhole : Type 0
CreationIsWhole =
    (schemas : List Schema) (x : World) (out : List ℕ) (number : ℕ) (failed : List (List ℕ)) (name : List ℕ) (s t : StackState)
    → (source : Source) → IsWritten schemas x out (entry.Done number status.CreateComplete failed) name s t → s.status ≢ t.status
    → IsAdvancing schemas s source → ShapeIsKept s source → s.before ≡ []
    → HoldsWhole name (world_after x (entry.Done number status.CreateComplete failed)) t × IsHeldAtRest t

-- while an update cleans up, and as it ends, whatever is written leaves what its template wants
abbrev pub CleanupKeepsWhole : Type 0
CleanupKeepsWhole =
    (schemas : List Schema) (x : World) (out : List ℕ) (e : Entry) (name : List ℕ) (s t : StackState) → IsWritten schemas x out e name s t
    → s.status ≡ status.UpdateCompleteCleanupInProgress → ((p : Pending) → In p s.tokens → DeletesSuperseded s p)
    → (h : HoldsWhole name x s) → (k : HoldsWhole name (world_after x e) t) × (k.source ≡ h.source) × (k.whole ≡ h.whole)

-- where nothing superseded is left and no call is open, it ends at rest
abbrev pub UpdateEndsAtRest : Type 0
UpdateEndsAtRest =
    (schemas : List Schema) (x : World) (out : List ℕ) (number : ℕ) (failed : List (List ℕ)) (name : List ℕ) (s t : StackState)
    → IsWritten schemas x out (entry.Done number status.UpdateComplete failed) name s t → s.status ≢ t.status → HoldsWhole name x s
    → ((r : Held) → In r s.held → r.superseded ≡ false) → s.tokens ≡ []
    → HoldsWhole name (world_after x (entry.Done number status.UpdateComplete failed)) t × IsHeldAtRest t

-- no operation begins on the stack of this name
abbrev pub IsNoBegin : List ℕ → Entry → Type 0
IsNoBegin name (entry.Begin number other k) = other ≢ name
IsNoBegin name e = ⊤

-- the stack holds what it held, and exports what it exported
pub record IsAsItWas (s t : StackState) : Type 0 where
  pub status : (t.status ≡ s.status) ⊎ (t.status ≡ reviewed s.status)
  pub held : t.held ≡ s.held
  pub before : t.before ≡ s.before
  pub made : t.made ≡ s.made
  pub tokens : t.tokens ≡ s.tokens
  pub source : t.source ≡ s.source
  pub outputs : t.outputs ≡ s.outputs

abbrev pub ExportsSame : List ℕ → World → World → Type 0
ExportsSame name x y = (e : Export) → In e (exports_in name y) ↔ In e (exports_in name x)

-- at rest nothing changes until an operation begins on the stack
abbrev pub StaysAtRest : Type 0
StaysAtRest =
    (schemas : List Schema) (x : World) (out : List ℕ) (e : Entry) (name : List ℕ) (s t : StackState) → IsWritten schemas x out e name s t
    → stage_of s.status ≡ None → IsNoBegin name e → IsAsItWas s t × ExportsSame name x (world_after x e)

-- so what is whole stays so, as it was
abbrev pub RestKeepsWhole : Type 0
RestKeepsWhole =
    (schemas : List Schema) (x : World) (out : List ℕ) (e : Entry) (name : List ℕ) (s t : StackState) → IsWritten schemas x out e name s t
    → stage_of s.status ≡ None → IsNoBegin name e → (h : HoldsWhole name x s) → IsHeldAtRest s
    → ((k : HoldsWhole name (world_after x e) t) × (k.source ≡ h.source) × (k.whole ≡ h.whole)) × IsHeldAtRest t

-- each held resource is live under its id, with its type and, where it is sure, its properties and attributes
abbrev pub AreLive : List Lane → StackState → Type 0
AreLive lanes s =
    (r : Held) → In r s.held → (v : Live) × IsLive lanes r v × (v.kind ≡ r.kind)
    × (r.unsure ≡ false → (v.props ≡ r.props) × (v.attrs ≡ r.attrs))

-- what is held is what is found under its id
abbrev pub HeldIsFound : Type 0
HeldIsFound =
    (x : World) (s : StackState) (r : Held) → Fits x s → In r s.held
    → option_or (find (has_physical r.physical) s.held) (find (has_physical r.physical) s.made) ≡ Some r

-- with what is live of it, a stack at rest that is whole keeps the promise of a completed operation, one that has all back that
-- of a rolled back update, and one that holds nothing that of a rolled back creation
abbrev pub WholeIsComplete : Type 0
WholeIsComplete =
    (name : List ℕ) (x : World) (s : StackState) (lanes : List Lane) → HoldsWhole name x s → IsHeldAtRest s → AreLive lanes s
    → IsComplete name x s lanes

abbrev pub BackIsRestored : Type 0
BackIsRestored = (x : World) (s : StackState) (lanes : List Lane) → Fits x s → IsBackAll s → IsHeldAtRest s → AreLive lanes s
    → IsRestored s lanes

abbrev pub ClearedIsRestored : Type 0
ClearedIsRestored = (s : StackState) (lanes : List Lane) → IsCleared s → s.before ≡ [] → IsRestored s lanes

-- what holds of a stack between two operations keeps the promise of its status, with what is live where no call is open
abbrev pub CourseKeepsPromise : Type 0
CourseKeepsPromise =
    (schemas : List Schema) (name : List ℕ) (x : World) (s : StackState) (lanes : List Lane) → Fits x s
    → IsOnCourse schemas name x s s.status
    → (s.tokens ≡ [] → AreLive lanes s) → Promised s.status name x s lanes
