-- How a layout is laid out of what is told of each path in the order of work, one pass after another (this project's own).
use Rattle.std.specs.Prelude.{◌≡◌, ℕ, ◌==◌, ◌<◌, ◌&&◌, ◌||◌, Bool, List, [], length, slice_get}
use Rattle.std.specs.List.{filter_map}
use Rattle.std.specs.Option.{option_map_or}
use Rattle.std.specs.Str.{bytes_eq}
use Rattle.std.specs.Global.{Vec}
use Rattle.cf_tree.specs.Keys.{value_at}
use Rattle.cf_desired.specs.declared.shape.Terms.{Terms}
use Rattle.cf_effect.specs.declared.layout.Placed.{Placed}
use Rattle.cf_effect.specs.Index.{ArePlacesOf}
use Rattle.cf_effect.specs.Layout.{is_place, row_needs}

-- under each path is its place
abbrev pub are_terms_of : List ℕ → List ℕ × Terms → Bool
are_terms_of path p = bytes_eq path p.0

abbrev pub HasPlaces : List (List ℕ × Terms) → List (List ℕ × ℕ) → Type 0
HasPlaces all places = ArePlacesOf are_terms_of all places

-- the row of a path, with the places of its needs that have one
abbrev pub row_told : Placed → List ℕ × List ℕ × List ℕ
row_told r = (r.path, r.kind, r.needs.items)

abbrev pub laid_row : List (List ℕ × ℕ) → List ℕ × Terms → List ℕ × List ℕ × List ℕ
laid_row places p = (p.0, p.1.kind, filter_map (λ q. value_at q places) p.1.needs)

-- one is among the users of another
abbrev pub is_user : ℕ → ℕ → List (Vec ℕ) → Bool
is_user other at users = is_place other (option_map_or (λ us. us.items) (slice_get users at) [])

-- one more joins the users of these places
pub record JoinsUsers (needs : List ℕ) (other : ℕ) (old new : List (Vec ℕ)) : Type 0 where
  pub count : length new ≡ length old
  pub users : (at j : ℕ) → at < length old → is_user j at new ≡ (is_user j at old || (is_place at needs && j == other))

-- the users of all these rows
pub record AreUsers (rows : List Placed) (users : List (Vec ℕ)) : Type 0 where
  pub count : length users ≡ length rows
  pub told : (at other : ℕ) → at < length rows → is_user other at users ≡ is_place at (row_needs rows other)
