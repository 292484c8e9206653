-- The life of an engine (cf_plan: Life) that a book stands for (this project's own): its entries, its lanes as they tell, and the calls
-- that are out.
use Rattle.std.specs.Prelude.{◌≡◌, ◌⊎◌, ℕ, true, false, List, Option, None, Some, map, option_map}
use Rattle.cf_tree.specs.Lists.{In}
use Rattle.cf_entry.specs.declared.entry.Entry.{Entry}
use Rattle.cf_lane.specs.Calling.{Granted}
use Rattle.cf_schema.specs.declared.described.Schema.{Schema}
use Rattle.cf_schema.specs.Kinds.{found}
use Rattle.cf_effect.specs.World.{World}
use Rattle.cf_plan.specs.Lanes.{Lane, lane_at}
use Rattle.cf_plan.specs.Life.{AreRaised, Event, IsLife, Lease, Life, world_of}
use Rattle.cf_core.specs.Theorem.{HoldsAlways}
use Rattle.cf_book.specs.Record.{with_doubt}
use Rattle.cf_book.specs.State.{BookLane, BookNow}

-- a lane as it tells, under its name and its type
abbrev pub told_lane : BookLane → Option Lane
told_lane b = option_map (λ state. record { name = b.lane.name; kind = b.lane.schema.kind; state = state }) b.lane.told

-- each lane of the book tells, and is the one of its name in the life; the life may have lanes that were not handed in
abbrev pub AreLanesOf : List BookLane → List Lane → Type 0
AreLanesOf lanes all = (b : BookLane) → In b lanes → (l : Lane) × (told_lane b ≡ Some l) × (lane_at l.name all ≡ Some l)

-- the call that a lane is out for; the life has it without what it came to, which is told as the lane comes home
abbrev pub lease_for : BookLane → Granted → Lease
lease_for b call = record { number = call.number; token = call.token; lane = b.lane.name; request = call.request; reply = None }

abbrev pub lease_of : BookLane → Option Lease
lease_of b = option_map (lease_for b) b.out

-- the calls that are out are those that the lanes are out for
pub record AreLeasesOf (lanes : List BookLane) (leases : List Lease) : Type 0 where
  pub each : (l : Lease) → In l leases → (b : BookLane) × In b lanes × (lease_of b ≡ Some l)
  pub all : (b : BookLane) (l : Lease) → In b lanes → lease_of b ≡ Some l → In l leases

-- the last opening named the lanes of the book, in their order, each with its type
abbrev pub lane_name : BookLane → List ℕ × List ℕ
lane_name b = (b.lane.name, b.lane.schema.kind)

abbrev pub NamesLanes : List BookLane → World → Type 0
NamesLanes lanes x = x.lanes ≡ map lane_name lanes

-- the lanes' schemas are those that there are for their types
abbrev pub DescribeLanes : List Schema → List BookLane → Type 0
DescribeLanes schemas lanes = (b : BookLane) → In b lanes → found b.lane.schema.kind schemas ≡ Some b.lane.schema

-- the entries of the journal, as far as they are known
abbrev pub AreEntriesOf : {D : Type 0} → BookNow D → List Entry → Type 0
AreEntriesOf b es = (es ≡ b.entries) ⊎ (es ≡ with_doubt b.entries b.doubt)

-- The book stands for the life. After a fault of the disk it stands for two: with the entry in doubt, and without it. A book that has
-- not stopped stands for no life that has. The last opening named the lanes that were handed in, and every one of them was raised.
pub record StandsFor {D : Type 0} (b : BookNow D) (life : Life) : Type 0 where
  pub entries : AreEntriesOf b life.entries
  pub lanes : AreLanesOf b.lanes life.lanes
  pub leases : AreLeasesOf b.lanes life.leases
  pub opened : life.is_open ≡ true
  pub granted : life.has_granted ≡ b.has_granted
  pub running : b.stopped ≡ None → life.is_stopped ≡ false
  pub raised : AreRaised life
  pub named : NamesLanes b.lanes (world_of life)

-- these events lead from the life to one that the book stands for
pub record LeadsTo {D : Type 0} (schemas : List Schema) (life : Life) (events : List Event) (b : BookNow D) : Type 0 where
  pub after : Life
  pub happen : IsLife schemas life events after
  pub stands : StandsFor b after

-- It is so in the life, if the book stands for it and what the core promises holds of it, by schemas that have those of the book's lanes.
abbrev pub InLife : {D : Type 0} → List Schema → Life → BookNow D → Type 0 → Type 0
InLife schemas life b so = DescribeLanes schemas b.lanes → StandsFor b life → HoldsAlways schemas life → so
