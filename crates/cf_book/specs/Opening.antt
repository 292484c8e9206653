-- The opening of a journal over lanes (this project's own format, docs/JOURNAL.md): which lanes may be handed in, and the entry.
use Rattle.std.specs.Prelude.{◌≡◌, ◌⊎◌, ℕ, ◌+◌, ◌&&◌, ◌||◌, ◌==◌, not, Bool, true, false, List, [], ◌∷◌, fold, codes, nat_le, if◌then◌else◌, Option, Some, None, Result, Ok, Err}
use Rattle.std.specs.List.{list_any}
use Rattle.std.specs.Option.{option_map_or}
use Rattle.std.specs.Str.{bytes_eq}
use Rattle.cf_funcs.specs.Pieces.{cut_at}
use Rattle.cf_tree.specs.Keys.{bytes_lt}
use Rattle.cf_tree.specs.Lists.{In, least_by}
use Rattle.cf_tree.specs.declared.request.Request.{Request}
use Rattle.cf_tree.specs.declared.request.Request.TheVariants as request
use Rattle.cf_entry.specs.declared.entry.Entry.{Entry}
use Rattle.cf_entry.specs.declared.entry.Entry.TheVariants as entry
use Rattle.cf_effect.specs.declared.held.Held.{Held}
use Rattle.cf_effect.specs.declared.held.Pending.{Pending}
use Rattle.cf_effect.specs.Words.{resources_of}
use Rattle.cf_effect.specs.World.{StackState, World}
use Rattle.cf_agree.specs.Base.{lane_of}
use Rattle.cf_plan.specs.Follow.{IsLaneFor, IsNamedLane}
use Rattle.cf_lane.specs.Lanes.{LaneNow}
use Rattle.cf_next.specs.declared.home.Home.{Home}
use Rattle.cf_book.specs.declared.refused.EnterFault.{EnterFault}
use Rattle.cf_book.specs.declared.refused.EnterFault.TheVariants as fault

-- a lane as an opening names it: its name and the type of its resources
abbrev pub LaneName : Type 0
LaneName = List ℕ × List ℕ

abbrev pub named_by : LaneNow → LaneName
named_by l = (l.name, l.schema.kind)

abbrev pub name_of_home : Home → LaneName
name_of_home h = (h.name, h.schema.kind)

-- a stack needs the lane of this name, which is not handed in: that of a resource, or of an open call
abbrev pub LacksLane : List LaneName → StackState → List ℕ → Type 0
LacksLane lanes s name =
    ((r : Held) × In r (resources_of s) × (IsNamedLane lanes r.physical r.kind → ⊥) × (name ≡ lane_of r.physical))
    ⊎ ((p : Pending) × In p s.tokens × (((l : LaneName) × In l lanes × IsLaneFor p l) → ⊥) × (name ≡ p.lane))

-- the first such name, in the order of bytes, of the stacks of a world
pub record IsFirstMissing (lanes : List LaneName) (x : World) (name : List ℕ) : Type 0 where
  pub stack : List ℕ × StackState
  pub there : In stack x.stacks
  pub lacks : LacksLane lanes stack.1 name
  pub first : (other : List ℕ × StackState) (lane : List ℕ) → In other x.stacks → LacksLane lanes other.1 lane → bytes_lt lane name ≡ false

-- a lane of this name is handed in
abbrev pub is_named : List LaneName → List ℕ → Bool
is_named lanes name = list_any (λ l. bytes_eq name l.0) lanes

-- the first name that two lanes have
abbrev pub twice : List LaneName → Option (List ℕ)
twice [] = None
twice (l ∷ ls) = if is_named ls l.0 then Some l.0 else twice ls

-- the opening of a world over these lanes
abbrev pub opening : List LaneName → World → Entry
opening lanes x = entry.Opened (x.epoch + 1) lanes

-- How the test of the lanes goes. No public definition rests on what follows.
-- a lane of this name and type is handed in
abbrev pub is_handed_in : List LaneName → List ℕ → List ℕ → Bool
is_handed_in lanes name kind = list_any (λ l. bytes_eq name l.0 && bytes_eq kind l.1) lanes

-- what stands before the first colon of a physical id
abbrev pub before_colon : List ℕ → List ℕ
before_colon physical = option_map_or (λ c. c.0) (cut_at (codes ":") physical) physical

-- a resource is served where a lane of its type is handed in that its physical id names
abbrev pub serves_held : List LaneName → Held → Bool
serves_held lanes h = option_map_or (λ c. is_handed_in lanes c.0 h.kind) (cut_at (codes ":") h.physical) false

-- an open call is served where its lane is handed in, of the type that it makes a resource of
abbrev pub serves_request : List LaneName → List ℕ → Request → Bool
serves_request lanes name (request.Create kind props) = is_handed_in lanes name kind
serves_request lanes name _ = is_named lanes name

abbrev pub serves_call : List LaneName → Pending → Bool
serves_call lanes p = serves_request lanes p.lane p.request

abbrev pub or_missing_held : List LaneName → Option (List ℕ) → Held → Option (List ℕ)
or_missing_held lanes best h = if serves_held lanes h then best else least_by (λ name. name) best (before_colon h.physical)

abbrev pub or_missing_call : List LaneName → Option (List ℕ) → Pending → Option (List ℕ)
or_missing_call lanes best p = if serves_call lanes p then best else least_by (λ name. name) best p.lane

-- a stack needs the lanes of its resources and of its open calls
abbrev pub missing_in : List LaneName → Option (List ℕ) → StackState → Option (List ℕ)
missing_in lanes best s =
    fold (or_missing_call lanes) (fold (or_missing_held lanes) (fold (or_missing_held lanes) best s.held) s.made) s.tokens

-- the first name in the order of bytes of a lane that a stack needs and that is not handed in
abbrev pub missing : List LaneName → World → Option (List ℕ)
missing lanes x = fold (λ best s. missing_in lanes best s.1) None x.stacks

-- Each operation is of one stack: none is above the last one, and no two stacks have the same, but for those on which none ever began.
-- So it is of entries that runs have written.
abbrev pub stands_apart : ℕ → ℕ → List (List ℕ × StackState) → Bool
stands_apart last operation others = nat_le operation last && (operation == 0 || not (list_any (λ s. s.1.operation == operation) others))

abbrev pub are_apart : ℕ → List (List ℕ × StackState) → Bool
are_apart last [] = true
are_apart last (s ∷ ss) = stands_apart last s.1.operation ss && are_apart last ss

-- no two lanes have one name, and none is missing
abbrev pub AreComplete : List LaneName → World → Type 0
AreComplete lanes x = (twice lanes ≡ None) × (missing lanes x ≡ None)

abbrev pub RefusesLanes : List LaneName → World → EnterFault → Type 0
RefusesLanes lanes x (fault.LaneTwice name) = twice lanes ≡ Some name
RefusesLanes lanes x (fault.LaneMissing name) = (twice lanes ≡ None) × (missing lanes x ≡ Some name)
RefusesLanes lanes x fault.NoMemory = Unit {0}
RefusesLanes lanes x _ = ⊥

abbrev pub TestsLanes : {T : Type 0} → List LaneName → World → Result T EnterFault → Type 0
TestsLanes lanes x (Ok done) = AreComplete lanes x
TestsLanes lanes x (Err f) = RefusesLanes lanes x f

-- the entry that is to be written, or why there is none
abbrev pub OpensAs : List LaneName → World → Result Entry EnterFault → Type 0
OpensAs lanes x (Ok e) = AreComplete lanes x × (e ≡ opening lanes x)
OpensAs lanes x (Err f) = RefusesLanes lanes x f
