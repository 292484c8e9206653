-- When a disk and the lanes agree, as a command finds them and as it leaves them (this project's own; what a status promises is that of the
-- User Guide).
use Rattle.std.specs.Prelude.{◌≡◌, ℕ, false, List, [], ◌∷◌, Option, Some, None, Ok, IsTrue, map, if◌then◌else◌}
use Rattle.std.specs.Str.{bytes_eq}
use Rattle.cf_disk.specs.declared.disk.Disk.{Ghosts as DiskGhosts}
use Rattle.cf_handler.specs.declared.handler.Handler.{Ghosts as HandlerGhosts}
use Rattle.cf_handler.specs.Fence.{FencedLane}
use Rattle.cf_schema.specs.declared.described.Schema.{Schema}
use Rattle.cf_entry.specs.declared.entry.Entry.{Entry}
use Rattle.cf_journal.specs.Record.{record_of}
use Rattle.cf_lane.specs.Lanes.{LaneNow}
use Rattle.cf_plan.specs.Lanes.{Lane}
use Rattle.cf_plan.specs.Life.{Life}
use Rattle.cf_plan.specs.Promise.{AreKept}
use Rattle.cf_core.specs.Theorem.{HoldsAlways}
use Rattle.cf_book.specs.Fences.{handed_in}
use Rattle.cf_book.specs.Lives.{AreLanesOf, DescribeLanes}
use Rattle.cf_book.specs.State.{at_home}

-- the life of an engine between two commands: the journal has these entries, and these are all the lanes that there are
abbrev pub at_rest : List Entry → List Lane → Life
at_rest es all =
    record { entries = es; lanes = all; leases = []; is_open = false; has_granted = false; is_stopped = false }

-- The entries and the lanes agree: what always holds in a life holds of them, and each stack keeps what its status promises.
pub record AgreeOn (schemas : List Schema) (es : List Entry) (all : List Lane) : Type 0 where
  pub holds : HoldsAlways schemas (at_rest es all)
  pub kept : AreKept (at_rest es all)

-- whatever file a crash now may leave, its record agrees with the lanes
abbrev pub EachAgrees : List Schema → (List ℕ → Type 0) → List Lane → Type 0
EachAgrees schemas may_leave all =
    (file : List ℕ) → may_leave file → (es : List Entry) × (record_of file ≡ Ok es) × AgreeOn schemas es all

-- these handlers are some of all the lanes: each tells and is the lane of its name there, and has the schema that there is for its type
pub record AreAmong {H : Type 0} (h : HandlerGhosts H) (schemas : List Schema) (handlers : List H) (all : List Lane) : Type 0 where
  pub lanes : AreLanesOf (map at_home (handed_in h handlers)) all
  pub described : DescribeLanes schemas (map at_home (handed_in h handlers))

-- Disk and lanes agree, where these handlers are handed in.
pub record Agree {D H : Type 0} (g : DiskGhosts D) (h : HandlerGhosts H) (schemas : List Schema) (disk : D) (handlers : List H)
    (all : List Lane) : Type 0 where
  pub among : AreAmong h schemas handlers all
  pub each : EachAgrees schemas (g.may_leave disk) all

-- a lane as one of these tells, if it has its name; the lanes, those of these names as they tell now
abbrev pub state_told : FencedLane → Option FencedLane → FencedLane
state_told was None = was
state_told was (Some now) = now

abbrev pub as_told : List LaneNow → Lane → Lane
as_told [] l = l
as_told (n ∷ now) l = if bytes_eq n.name l.name then record l { state = state_told l.state n.told } else as_told now l

abbrev pub all_as_told : List LaneNow → List Lane → List Lane
all_as_told now all = map (as_told now) all

-- What each command keeps, whatever its answer: where disk and lanes agree as they are handed in, they do as they are given back, and no
-- lane that was not handed in has changed.
abbrev pub KeepsAgreement : {D H : Type 0} → DiskGhosts D → HandlerGhosts H → D → List H → D → List H → Type 0
KeepsAgreement g h disk handlers disk' handlers' =
    IsTrue g.tells → (schemas : List Schema) (all : List Lane) → Agree g h schemas disk handlers all
    → Agree g h schemas disk' handlers' (all_as_told (handed_in h handlers') all)
