-- The layout of an operation's source: its resources in the order of work by their places, with the places of what each needs and
-- of what needs it (this project's own).
use Rattle.std.specs.Prelude.{◌≡◌, ℕ, ◌==◌, ◌<◌, Bool, List, [], Option, Some, None, map, position, slice_get}
use Rattle.std.specs.List.{AllByRecursion, list_any}
use Rattle.std.specs.Option.{option_map_or}
use Rattle.std.specs.Str.{bytes_eq}
use Rattle.cf_tree.specs.Keys.{value_at}
use Rattle.cf_desired.specs.Shape.{shape_of}
use Rattle.cf_desired.specs.Valued.{resources_in}
use Rattle.cf_desired.specs.Work.{Member}
use Rattle.cf_effect.specs.declared.layout.Layout.{Layout}
use Rattle.cf_effect.specs.declared.layout.Placed.{Placed}
use Rattle.cf_effect.specs.Begin.{seen_in}
use Rattle.cf_effect.specs.World.{StackState}

-- the path at a place; the places of what it needs, and of what needs it
abbrev pub path_at : List Placed → ℕ → List ℕ
path_at rows at = option_map_or (λ r. r.path) (slice_get rows at) []

abbrev pub row_needs : List Placed → ℕ → List ℕ
row_needs rows at = option_map_or (λ r. r.needs.items) (slice_get rows at) []

abbrev pub users_at : Layout → ℕ → List ℕ
users_at l at = option_map_or (λ us. us.items) (slice_get l.users.items at) []

abbrev pub is_place : ℕ → List ℕ → Bool
is_place at places = list_any (λ k. at == k) places

abbrev pub is_row_of : List ℕ → Placed → Bool
is_row_of path r = bytes_eq path r.path

-- what a path needs stands before it; one is a user of another just where it needs that
pub record AreRows (members : List Member) (l : Layout) : Type 0 where
  pub paths : map (λ r. r.path) l.rows.items ≡ map (λ m. m.path) members
  pub kinds : map (λ r. r.kind) l.rows.items ≡ map (λ m. m.kind) members
  pub needs : map (λ r. map (path_at l.rows.items) r.needs.items) l.rows.items ≡ map (λ m. m.needs) members
  pub earlier : (at : ℕ) → AllByRecursion (λ k. k < at) (row_needs l.rows.items at)
  pub users : (at other : ℕ) → is_place other (users_at l at) ≡ is_place at (row_needs l.rows.items other)
  pub places : (path : List ℕ) → value_at path l.places ≡ position (is_row_of path) l.rows.items

-- the resources of the source of a stack's last create or update, in the order of work over what was held as that began
abbrev pub source_members : StackState → List Member
source_members s = option_map_or (λ source. resources_in (shape_of source (seen_in s.before))) s.going []

-- a stack that set out with no source has no resources of one
abbrev pub IsLayoutOf : StackState → Option Layout → Type 0
IsLayoutOf s None = source_members s ≡ []
IsLayoutOf s (Some l) = AreRows (source_members s) l
