-- Where in a list the row of each path is, so that it is looked up by halves (this project's own).
use Rattle.std.specs.Prelude.{◌≡◌, ℕ, Bool, false, List, Option, position, is_some, if◌then◌else◌}
use Rattle.std.specs.Option.{option_map_or}
use Rattle.std.specs.Str.{bytes_eq}
use Rattle.cf_tree.specs.Keys.{put, value_at}

-- under each path is the place of the first of a list that the path passes
abbrev pub ArePlacesOf : {A : Type 0} → (List ℕ → A → Bool) → List A → List (List ℕ × ℕ) → Type 0
ArePlacesOf test all places = (path : List ℕ) → value_at path places ≡ position (test path) all

-- one place more; of two of one path the first counts
abbrev pub put_place : List (List ℕ × ℕ) → List ℕ → ℕ → List (List ℕ × ℕ)
put_place places path at = if is_some (value_at path places) then places else put path at places

-- a path is the one that a row is found by, where there is one
abbrev pub is_path : List ℕ → Option (List ℕ) → Bool
is_path path own = option_map_or (bytes_eq path) own false
