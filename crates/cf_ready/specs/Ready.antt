-- Which paths wait for nothing: a path is ready once all that it needs is made. Paths are told by their places, what is made by the
-- places that are kept of it, and names by their ranks (this project's own).
use Rattle.std.specs.Prelude.{◌≡◌, ℕ, ◌<◌, ◌&&◌, not, nat_lt, Bool, true, false, List, Option, Some, None, is_some, length, set, slice_index_or, take}
use Rattle.std.specs.List.{list_all, slice_get}
use Rattle.std.specs.Option.{option_and_then}
use Rattle.cf_ready.specs.declared.ready.Readiness.{Readiness}

-- the path at a place is made; and all at some places
abbrev pub is_made_in : List (Option ℕ) → ℕ → Bool
is_made_in made at = is_some (option_and_then (λ (place : Option ℕ). place) (slice_get made at))

abbrev pub are_made_in : List (Option ℕ) → List ℕ → Bool
are_made_in made needs = list_all (is_made_in made) needs

-- the path at a place waits to be made; and what is found of it is not sound, though it waits for nothing
abbrev pub awaits_make : List (Option ℕ) → List ℕ → ℕ → Bool
awaits_make made needs at = are_made_in made needs && not (is_made_in made at)

abbrev pub is_unsound : List (Option ℕ) → List ℕ → Bool → Bool
is_unsound made needs sound = are_made_in made needs && not sound

-- so many of the first needs are made, and these are all but where one more is not
pub record MeetsFrom (made : List (Option ℕ)) (needs : List ℕ) (met : ℕ) : Type 0 where
  pub first : are_made_in made (take met needs) ≡ true
  pub all : are_made_in made needs ≡ not (nat_lt met (length needs))

-- the places in the order of names are so many, each once; and the ranks are their places in this order
pub record AreAll (n : ℕ) (order : List ℕ) : Type 0 where
  pub within : (rank at : ℕ) → slice_get order rank ≡ Some at → at < n
  pub every : (at : ℕ) → at < n → (rank : ℕ) × (slice_get order rank ≡ Some at)
  pub once : (i j at : ℕ) → slice_get order i ≡ Some at → slice_get order j ≡ Some at → i ≡ j

pub record AreRanks (order ranks : List ℕ) : Type 0 where
  pub by_place : (at rank : ℕ) → slice_get order rank ≡ Some at → slice_get ranks at ≡ Some rank
  pub by_rank : (at rank : ℕ) → slice_get ranks at ≡ Some rank → slice_get order rank ≡ Some at

-- the flag at a rank is set, where there is one
abbrev pub with_rank : Option ℕ → Bool → List Bool → List Bool
with_rank None flag flags = flags
with_rank (Some rank) flag flags = set flags rank flag

-- the flags of the path at a place are set anew
pub record Touches (made : List (Option ℕ)) (needs : List ℕ) (sound : Bool) (at : ℕ) (old new : Readiness) : Type 0 where
  pub met : ℕ
  pub ranks : new.ranks ≡ old.ranks
  pub mets : new.met.items ≡ set old.met.items at met
  pub first : are_made_in made (take met needs) ≡ true
  pub ready : new.ready ≡ with_rank (slice_get old.ranks.items at) (awaits_make made needs at) old.ready
  pub unsound : new.unsound ≡ set old.unsound at (is_unsound made needs sound)

-- what the flags of the path at a place say
pub record HasFlags (made : List (Option ℕ)) (needs : List ℕ) (sound : Bool) (at : ℕ) (r : Readiness) : Type 0 where
  pub first : are_made_in made (take (slice_index_or r.met.items at 0) needs) ≡ true
  pub ready : (rank : ℕ) → slice_get r.ranks.items at ≡ Some rank → slice_index_or r.ready rank false ≡ awaits_make made needs at
  pub unsound : slice_index_or r.unsound at false ≡ is_unsound made needs sound

-- a path is at each rank, and there are flags of each path
pub record IsShaped (order : List ℕ) (n : ℕ) (r : Readiness) : Type 0 where
  pub ranks : AreRanks order r.ranks.items
  pub count : length r.ranks.items ≡ n
  pub met : length r.met.items ≡ n
  pub ready : length r.ready ≡ length order
  pub unsound : length r.unsound ≡ n
