-- Where the resources and the other turns of a shape stand among its turns (this project's own).
use Rattle.std.specs.Prelude.{◌≡◌, ℕ, ◌+◌, suc, Bool, true, false, List, [], ◌∷◌, Option, Some, None, if◌then◌else◌, option_map}
use Rattle.std.specs.Str.{bytes_eq}
use Rattle.cf_tree.specs.Keys.{put}
use Rattle.cf_desired.specs.declared.shape.Turn.{Turn}
use Rattle.cf_desired.specs.declared.shape.Turn.TheVariants.{Resource}

-- a turn that is a resource, and one at a path
abbrev pub is_resource : Turn → Bool
is_resource (Resource m) = true
is_resource _ = false

abbrev pub is_resource_at : List ℕ → Turn → Bool
is_resource_at path (Resource m) = bytes_eq path m.path
is_resource_at path _ = false

-- the place of the first resource at a path
abbrev pub place_of : List ℕ → List Turn → Option ℕ
place_of path [] = None
place_of path (turn ∷ ts) = if is_resource_at path turn then Some 0 else option_map (λ k. suc k) (place_of path ts)

-- the places of resources by path, where the first turn stands at a place: of two at one path the first counts
abbrev pub with_place : Turn → ℕ → List (List ℕ × ℕ) → List (List ℕ × ℕ)
with_place (Resource m) at places = put m.path at places
with_place _ at places = places

abbrev pub places_from : ℕ → List Turn → List (List ℕ × ℕ)
places_from at [] = []
places_from at (turn ∷ ts) = with_place turn at (places_from (at + 1) ts)

-- the places of the turns that are no resource
abbrev pub others_from : ℕ → List Turn → List ℕ
others_from at [] = []
others_from at (turn ∷ ts) = if is_resource turn then others_from (at + 1) ts else at ∷ others_from (at + 1) ts

-- what is looked up in place of walking: both kinds of places
abbrev pub ArePlaced : List Turn → List (List ℕ × ℕ) → List ℕ → Type 0
ArePlaced ts places others = (places ≡ places_from 0 ts) × (others ≡ others_from 0 ts)
