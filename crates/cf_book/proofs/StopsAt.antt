-- Lanes whose fences are raised, or up to one at which that stops: their names, types and places.
use Rattle.std.proofs.Common.{◌≡◌, ◌∙◌, ℕ, zero, suc, ◌<◌, arith, length, List, [], ◌∷◌, None, Some, map, slice_get, refl, ap}
use Rattle.std.proofs.lemmas.Option.{none-some, same_Some}
use Rattle.cf_handler.specs.declared.fence.FenceAnswer.{FenceAnswer}
use Rattle.cf_lane.specs.Lanes.{LaneNow}
use Rattle.cf_next.specs.declared.home.Home.{Home}
use Rattle.cf_book.specs.Fences.{EachRaised, StopsRaising}
use Rattle.cf_book.specs.State.{at_home, home_of}

module _ (epoch : ℕ) where
  -- the lane at which raising stops is there
  pub stopped_below : (place : ℕ) (bs cs : List LaneNow) (x : FenceAnswer) → StopsRaising bs cs place epoch x → place < length bs
  stopped_below place [] cs x h = absurd h
  stopped_below place (b ∷ bs) [] x h = absurd h
  stopped_below zero (b ∷ bs) (c ∷ cs) x h = omega arith
  stopped_below (suc n) (b ∷ bs) (c ∷ cs) x h = let m = stopped_below n bs cs x h.1 in omega (arith, m)

  pub stopped_at : (place : ℕ) (bs cs : List LaneNow) (x : FenceAnswer) → StopsRaising bs cs place epoch x
      → (lane : LaneNow) × (slice_get bs place ≡ Some lane)
  stopped_at place [] cs x h = absurd h
  stopped_at place (b ∷ bs) [] x h = absurd h
  stopped_at zero (b ∷ bs) (c ∷ cs) x h = (b, refl)
  stopped_at (suc n) (b ∷ bs) (c ∷ cs) x h = stopped_at n bs cs x h.1

  -- raising changes neither names nor types
  pub raised_homes : (bs cs : List LaneNow) → EachRaised bs cs epoch → map (λ l. home_of (at_home l)) cs ≡ map (λ l. home_of (at_home l)) bs
  raised_homes [] [] r = refl
  raised_homes [] (c ∷ cs) r = absurd r
  raised_homes (b ∷ bs) [] r = absurd r
  raised_homes (b ∷ bs) (c ∷ cs) r =
      ap (λ n. record { name = n; schema = c.schema; out = None } ∷ map (λ l. home_of (at_home l)) cs) r.0.name
      ∙ ap (λ g. record { name = b.name; schema = g; out = None } ∷ map (λ l. home_of (at_home l)) cs) r.0.schema
      ∙ ap (λ hs. home_of (at_home b) ∷ hs) (raised_homes bs cs r.1)

  pub raised_names : (bs cs : List LaneNow) → EachRaised bs cs epoch → map (λ (l : LaneNow). l.name) cs ≡ map (λ (l : LaneNow). l.name) bs
  raised_names [] [] r = refl
  raised_names [] (c ∷ cs) r = absurd r
  raised_names (b ∷ bs) [] r = absurd r
  raised_names (b ∷ bs) (c ∷ cs) r = ap (λ n. n ∷ map (λ (l : LaneNow). l.name) cs) r.0.name ∙ ap (λ ns. b.name ∷ ns) (raised_names bs cs r.1)

  pub raised_long : (bs cs : List LaneNow) → EachRaised bs cs epoch → length cs ≡ length bs
  raised_long [] [] r = refl
  raised_long [] (c ∷ cs) r = absurd r
  raised_long (b ∷ bs) [] r = absurd r
  raised_long (b ∷ bs) (c ∷ cs) r = ap suc (raised_long bs cs r.1)

-- the name of a lane, as its home has it
pub named_at : (bs : List LaneNow) (place : ℕ) (b : LaneNow) → slice_get bs place ≡ Some b
    → slice_get (map (λ (h : Home). h.name) (map (λ l. home_of (at_home l)) bs)) place ≡ Some b.name
named_at [] place b g = absurd (none-some b g)
named_at (c ∷ cs) zero b g = ap (λ (l : LaneNow). Some l.name) (same_Some c b g)
named_at (c ∷ cs) (suc n) b g = named_at cs n b g
