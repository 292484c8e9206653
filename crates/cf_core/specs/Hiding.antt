-- What a change set did not hide stays seen as its operation goes forward: each call that may change it is hidden (this project's
-- own laws).
use Rattle.std.specs.Prelude.{◌≡◌, ℕ, true, List, [], Some, IsTrue, is_some}
use Rattle.cf_tree.specs.Datum.{Data}
use Rattle.cf_tree.specs.Keys.{ascends}
use Rattle.cf_tree.specs.declared.request.Request.{Request}
use Rattle.cf_tree.specs.declared.request.Request.TheVariants as request
use Rattle.cf_tree.specs.declared.source.Source.{Source}
use Rattle.cf_entry.specs.declared.entry.Entry.{Entry}
use Rattle.cf_entry.specs.declared.entry.Entry.TheVariants as entry
use Rattle.cf_entry.specs.declared.entry.Begun.{Begun}
use Rattle.cf_schema.specs.declared.described.Schema.{Schema}
use Rattle.cf_schema.specs.Kinds.{found}
use Rattle.cf_change.specs.Hidden.{hides_attrs, hides_id}
use Rattle.cf_desired.specs.Shape.{shape_of}
use Rattle.cf_desired.specs.ShapeStays.{KeepsRest}
use Rattle.cf_effect.specs.declared.held.Held.{Held}
use Rattle.cf_effect.specs.declared.held.Pending.{Pending}
use Rattle.cf_effect.specs.World.{StackState, World, no_stack}
use Rattle.cf_effect.specs.Begin.{seen_in}
use Rattle.cf_effect.specs.End.{seen_now}
use Rattle.cf_effect.specs.Status.{Forward, goes_forward}
use Rattle.cf_plan.specs.Follow.{MayIntend}
use Rattle.cf_plan.specs.Forward.{Known, evaluated_at}
use Rattle.cf_tree.specs.Lists.{In}
use Rattle.cf_plan.specs.Lanes.{AreSchemas}
use Rattle.cf_plan.specs.Life.{Event, IsStart, Life, Happens, life_after, world_of}
use Rattle.cf_core.specs.Advancing.{IsAdvancing, IsHidden, changes_begun}
use Rattle.cf_core.specs.Fits.{Fits, IsWritten}

-- each type of the lanes of the last opening has a schema
abbrev pub AreDescribed : List Schema → World → Type 0
AreDescribed schemas x = (l : List ℕ × List ℕ) → In l x.lanes → is_some (found l.1 schemas) ≡ true

-- that is so at a start, and every event of a life keeps it: an opening hands in lanes that there are
abbrev pub StartIsDescribed : Type 0
StartIsDescribed = (schemas : List Schema) (life : Life) → IsStart schemas life → AreDescribed schemas (world_of life)

abbrev pub DescribedIsKept : Type 0
DescribedIsKept =
    (schemas : List Schema) (life : Life) (e : Event) → Happens schemas life e → AreSchemas schemas life.lanes
    → AreDescribed schemas (world_of life) → AreDescribed schemas (world_of (life_after life e))

-- properties stand once each in the order of their names: of each resource, and of each that an open call asks for
abbrev pub props_asked : Request → List (List ℕ × Data)
props_asked (request.Create kind props) = props
props_asked (request.Update physical props) = props
props_asked (request.Delete physical) = []

abbrev pub InOrder : Held → Type 0
InOrder r = ascends r.props ≡ true

pub record IsOrdered (s : StackState) : Type 0 where
  pub held : (r : Held) → In r s.held → InOrder r
  pub before : (r : Held) → In r s.before → InOrder r
  pub made : (r : Held) → In r s.made → InOrder r
  pub asked : (p : Pending) → In p s.tokens → ascends (props_asked p.request) ≡ true

-- so are those that the operation's template says of a path
abbrev pub SaidInOrder : StackState → Type 0
SaidInOrder s = (path kind : List ℕ) (props : List (List ℕ × Data)) → evaluated_at path s ≡ Known kind props → ascends props ≡ true

abbrev pub SaidIsInOrder : Type 0
SaidIsInOrder = (s : StackState) → SaidInOrder s

-- whatever entry is written; and of a stack of which nothing is known
abbrev pub OrderStays : Type 0
OrderStays =
    (schemas : List Schema) (x : World) (out : List ℕ) (e : Entry) (name : List ℕ) (s t : StackState) → IsWritten schemas x out e name s t
    → IsOrdered s → IsOrdered t

abbrev pub NoneIsOrdered : Type 0
NoneIsOrdered = IsOrdered no_stack

-- what the change set of an operation did not hide is seen now as before it
abbrev pub RestIsSeen : List Schema → StackState → Source → Type 0
RestIsSeen schemas s source =
    KeepsRest (hides_id (changes_begun schemas s source).rows) (hides_attrs (changes_begun schemas s source).rows)
    (seen_in s.before) (seen_now s)

-- each call that the forward phase intends is hidden
abbrev pub IntendedIsHidden : Type 0
IntendedIsHidden =
    (schemas : List Schema) (name : List ℕ) (x : World) (out : List ℕ) (s : StackState) (source : Source) (token : ℕ) (lane path : List ℕ)
    (r : Request)
    → IsAdvancing schemas s source → Fits x s → IsOrdered s → AreDescribed schemas x
    → MayIntend schemas name x out s Forward token lane path r → IsHidden (changes_begun schemas s source).rows s path r

-- the shape of the operation's source is that over what was held before
abbrev pub ShapeStaysAdvancing : Type 0
ShapeStaysAdvancing =
    (schemas : List Schema) (s : StackState) (source : Source) → IsAdvancing schemas s source
    → shape_of source (seen_now s) ≡ shape_of source (seen_in s.before)

-- what was not hidden stays seen, whatever entry is written in the forward phase
abbrev pub RestStaysSeen : Type 0
RestStaysSeen =
    (schemas : List Schema) (x : World) (out : List ℕ) (e : Entry) (name : List ℕ) (s t : StackState) (source : Source)
    → IsWritten schemas x out e name s t → IsTrue (goes_forward s.status) → IsTrue (goes_forward t.status) → IsAdvancing schemas s source
    → RestIsSeen schemas t source

-- it is seen as a creation or an update begins, whose source was accepted
pub record BeginsSeen (schemas : List Schema) (t : StackState) (source : Source) : Type 0 where
  pub going : t.going ≡ Some source
  pub no_flaw : (changes_begun schemas t source).flaws ≡ []
  pub no_clash : (changes_begun schemas t source).clash ≡ []
  pub rest : RestIsSeen schemas t source

abbrev pub RestBeginsSeen : Type 0
RestBeginsSeen =
    (schemas : List Schema) (x : World) (out : List ℕ) (number : ℕ) (stack : List ℕ) (k : Begun) (name : List ℕ) (s t : StackState)
    → IsWritten schemas x out (entry.Begin number stack k) name s t → stack ≡ name → IsTrue (goes_forward t.status)
    → (source : Source) × BeginsSeen schemas t source
