-- What parking does, and which events of a life it is (this project's own).
use Rattle.std.specs.Prelude.{◌≡◌, ℕ, List, [], ◌∷◌}
use Rattle.cf_handler.specs.declared.handler.Handler.{Ghosts}
use Rattle.cf_lane.specs.Calling.{answered_lane, granted_of, leased_lane, told_of}
use Rattle.cf_lane.specs.Lanes.{lane_now}
use Rattle.cf_lane.specs.declared.lane.Lane.{Lane}
use Rattle.cf_schema.specs.declared.described.Schema.{Schema}
use Rattle.cf_plan.specs.Life.{Life, Park}
use Rattle.cf_core.specs.Theorem.{HoldsAlways}
use Rattle.cf_book.specs.Calls.{ComesInTime, HasAnswer, HasOut}
use Rattle.cf_book.specs.Events.{ParksCall}
use Rattle.cf_book.specs.Lives.{LeadsTo, StandsFor}
use Rattle.cf_book.specs.State.{BookLane, BookNow}
use Rattle.cf_book.specs.declared.homing.Parked.{Parked}
use Rattle.cf_book.specs.declared.homing.Parked.TheVariants.{Lease, Answered}

abbrev pub parked_lane : {H : Type 0} → Parked H → Lane H
parked_lane (Lease lease) = leased_lane lease
parked_lane (Answered answered) = answered_lane answered

-- the book has it out, or it is the answer of one that it has out
abbrev pub MayPark : {H : Type 0} → Ghosts H → List BookLane → Parked H → Type 0
MayPark g lanes (Lease lease) = HasOut g lanes lease
MayPark g lanes (Answered answered) = HasAnswer g lanes answered

-- a call that was made came in time
abbrev pub ParksInTime : {H D : Type 0} → BookNow D → Parked H → Type 0
ParksInTime b (Lease lease) = Unit {0}
ParksInTime b (Answered answered) = ComesInTime b (told_of answered)

-- a lease is parked, or its call, late effects before it, and then it is
abbrev pub Parks : {H D : Type 0} → Ghosts H → List Schema → Life → BookNow D → Parked H → Type 0
Parks g schemas life new (Lease lease) = LeadsTo schemas life (Park (granted_of lease).token ∷ []) new
Parks g schemas life new (Answered answered) =
    ParksCall schemas life new (lane_now g (answered_lane answered)).name (told_of answered)

-- of every life that the book stands for, in which what the core promises holds
abbrev pub ParksIn : {H D : Type 0} → Ghosts H → List Schema → Life → BookNow D → BookNow D → Parked H → Type 0
ParksIn g schemas life old new parked = StandsFor old life → HoldsAlways schemas life → Parks g schemas life new parked
