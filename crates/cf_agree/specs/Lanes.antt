-- All lanes, as functions of a lane's name: which are there, and what each holds (this project's own).
use Rattle.std.specs.Prelude.{◌≡◌, ◌≢◌, ℕ, Bool, List, [], Option, Some}
use Rattle.cf_handler.specs.declared.settled.Settled.{Settled}
use Rattle.cf_handler.specs.Lane.{Live, is_used}
use Rattle.cf_handler.specs.Fence.{FencedLane, live_at}
use Rattle.cf_agree.specs.Base.{settled_at}

-- a lane on which nothing was ever called or is live
abbrev pub no_lane : FencedLane
no_lane = record { state = record { base = []; settled = [] }; flying = []; fence = 0 }

-- the type of each lane that is there, and what it holds; one that is not there holds nothing
pub record Lanes : Type 0 where
  pub kind : List ℕ → Option (List ℕ)
  pub lane : List ℕ → FencedLane

abbrev pub IsThere : Lanes → List ℕ → Type 0
IsThere w n = (k : List ℕ) × (w.kind n ≡ Some k)

-- what is live of an id on a lane, whether it was ever used there, and the settled entry of a token
abbrev pub live_in : Lanes → List ℕ → List ℕ → Option Live
live_in w n i = live_at i (w.lane n)

abbrev pub used_in : Lanes → List ℕ → List ℕ → Bool
used_in w n i = is_used i (w.lane n).state

abbrev pub settled_under : Lanes → List ℕ → ℕ → Option Settled
settled_under w n t = settled_at t (w.lane n).state.settled

-- the lanes with another one under this name, where there is one of it
pub record Replaced (n : List ℕ) (l : FencedLane) (w w' : Lanes) : Type 0 where
  pub kinds : (m : List ℕ) → w'.kind m ≡ w.kind m
  pub at : w'.lane n ≡ l
  pub others : (m : List ℕ) → m ≢ n → w'.lane m ≡ w.lane m
