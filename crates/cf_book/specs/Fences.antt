-- The raising of the fences of lanes, one after another, until one answers otherwise (this project's own).
use Rattle.std.specs.Prelude.{◌≡◌, ◌≢◌, ℕ, suc, zero, List, [], ◌∷◌, Option, Some, None, map, set, slice_get}
use Rattle.cf_handler.specs.declared.fence.FenceAnswer.{FenceAnswer}
use Rattle.cf_handler.specs.declared.fence.FenceAnswer.TheVariants as fence
use Rattle.cf_handler.specs.declared.handler.Handler.{Ghosts}
use Rattle.cf_lane.specs.Lanes.{IsFenced, LaneNow, lane_with}
use Rattle.cf_book.specs.declared.fences.Unraised.{Unraised}

-- the lanes as they are handed in: their logs are empty
abbrev pub handed_in : {H : Type 0} → Ghosts H → List H → List LaneNow
handed_in g handlers = map (λ h. lane_with g h []) handlers

-- the fence of the lane at this place is raised, or what it answers; the other lanes are as they were
pub record RaisesAt (before after : List LaneNow) (at epoch : ℕ) (a : FenceAnswer) : Type 0 where
  pub lane : LaneNow
  pub lane' : LaneNow
  pub was : slice_get before at ≡ Some lane
  pub now : after ≡ set before at lane'
  pub fenced : IsFenced lane lane' epoch a

-- as many lanes, the fence of each raised
abbrev pub EachRaised : List LaneNow → List LaneNow → ℕ → Type 0
EachRaised [] [] epoch = Unit {0}
EachRaised (b ∷ bs) (a ∷ more) epoch = IsFenced b a epoch fence.Raised × EachRaised bs more epoch
EachRaised _ _ epoch = ⊥

-- the fences of the lanes before this place are raised, that of the lane at it answers so, and those behind it are as they were
abbrev pub StopsRaising : List LaneNow → List LaneNow → ℕ → ℕ → FenceAnswer → Type 0
StopsRaising (b ∷ bs) (a ∷ more) zero epoch x = IsFenced b a epoch x × (more ≡ bs)
StopsRaising (b ∷ bs) (a ∷ more) (suc n) epoch x = IsFenced b a epoch fence.Raised × StopsRaising bs more n epoch x
StopsRaising _ _ n epoch x = ⊥

-- all of them, or as far as one answers otherwise
abbrev pub RaisesAll : List LaneNow → List LaneNow → ℕ → Option Unraised → Type 0
RaisesAll before after epoch None = EachRaised before after epoch
RaisesAll before after epoch (Some u) = StopsRaising before after u.at epoch u.answer × (u.answer ≢ fence.Raised)
