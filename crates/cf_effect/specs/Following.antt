-- How findings are worked out, and how they follow what an outcome changes (this project's own).
use Rattle.std.specs.Prelude.{◌≡◌, ℕ, Bool, zero, suc, true, false, List, [], ◌∷◌, ◌++◌, Option, Some, None, length, map, slice_get}
use Rattle.std.specs.List.{filter_map, list_any}
use Rattle.std.specs.Option.{option_and_then, option_map_or, option_or}
use Rattle.std.specs.Str.{bytes_eq}
use Rattle.cf_tree.specs.Lists.{is_among}
use Rattle.cf_tree.specs.Named.{all_differ}
use Rattle.cf_desired.specs.declared.wanted.Evaluated.{Evaluated}
use Rattle.cf_desired.specs.Seeing.{Seen, by_names}
use Rattle.cf_desired.specs.Whole.{known_of}
use Rattle.cf_desired.specs.Work.{Member}
use Rattle.cf_effect.specs.declared.findings.Found.{Found}
use Rattle.cf_effect.specs.declared.held.Held.{Held}
use Rattle.cf_effect.specs.declared.layout.Layout.{Layout}
use Rattle.cf_effect.specs.Begin.{shown_under}
use Rattle.cf_effect.specs.Findings.{place_among}
use Rattle.cf_effect.specs.Layout.{AreRows, is_place, source_members}
use Rattle.cf_effect.specs.Words.{resource_at}
use Rattle.cf_effect.specs.World.{StackState}

-- what is kept at a place
abbrev pub kept_at : List (Option ℕ) → ℕ → Option ℕ
kept_at places at = option_and_then (λ (place : Option ℕ). place) (slice_get places at)

-- the resource of the path at a place, and what the resources at some places show
abbrev pub resource_in : StackState → ℕ → Option Held
resource_in s at = option_and_then (λ m. resource_at m.path s) (slice_get (source_members s) at)

abbrev pub seen_of_places : StackState → List ℕ → Seen
seen_of_places s places = by_names (map shown_under (filter_map (resource_in s) places))

-- nothing is found
abbrev pub IsNothing : List (Option Found) → Type 0
IsNothing found = (at : ℕ) (e : Found) → slice_get found at ≡ Some (Some e) → ⊥

-- what properties come to, with the properties themselves where all are known
abbrev pub IsFoundBy : Option Evaluated → Option Found → Type 0
IsFoundBy v None = v ≡ None
IsFoundBy v (Some e) = (v ≡ Some e.evaluated) × (e.known ≡ known_of e.evaluated)

-- what was found at some places is taken off
pub record AreTaken (places : List ℕ) (old new : List (Option Found)) : Type 0 where
  pub count : length new ≡ length old
  pub kept : (at : ℕ) (e : Found) → slice_get new at ≡ Some (Some e) → slice_get old at ≡ Some (Some e)
  pub other : (at : ℕ) (e : Found) → slice_get new at ≡ Some (Some e) → is_place at places ≡ false
  pub same : (at : ℕ) → is_place at places ≡ false → slice_get new at ≡ slice_get old at

-- nothing is left of what was found of a path that needs this one, and of any other all is
pub record Forgets (s : StackState) (path : List ℕ) (old new : List (Option Found)) : Type 0 where
  pub count : length new ≡ length old
  pub kept : (at : ℕ) (e : Found) → slice_get new at ≡ Some (Some e) → slice_get old at ≡ Some (Some e)
  pub other : (at : ℕ) (m : Member) (e : Found) → slice_get (source_members s) at ≡ Some m → slice_get new at ≡ Some (Some e)
      → is_among path m.needs ≡ false
  pub same : (at : ℕ) (m : Member) → slice_get (source_members s) at ≡ Some m → is_among path m.needs ≡ false
      → slice_get new at ≡ slice_get old at

-- the path stands at this place
abbrev pub IsPlaceOf : StackState → List ℕ → ℕ → Type 0
IsPlaceOf s path at = (m : Member) × (slice_get (source_members s) at ≡ Some m) × (m.path ≡ path)

-- a place is put in, where there is none yet
abbrev pub with_place : ℕ → ℕ → List (Option ℕ) → List (Option ℕ)
with_place at place [] = []
with_place zero place (o ∷ os) = option_or o (Some place) ∷ os
with_place (suc at) place (o ∷ os) = o ∷ with_place at place os

-- a change of a resource that leaves it the resource of its path, or of none
pub record KeepsPath (change : Held → Held) : Type 0 where
  pub path : (h : Held) → (change h).path ≡ h.path
  pub physical : (h : Held) → (change h).physical ≡ h.physical
  pub superseded : (h : Held) → (change h).superseded ≡ h.superseded

-- the path stands at this place of a layout; and this is its place there, or it is at none
abbrev pub stands_at : Layout → ℕ → List ℕ → Bool
stands_at l at path = option_map_or (λ r. bytes_eq r.path path) (slice_get l.rows.items at) false

abbrev pub IsPlaceIn : Layout → List ℕ → Option ℕ → Type 0
IsPlaceIn l path None = (ms : List Member) → AreRows ms l → list_any (bytes_eq path) (map (λ m. m.path) ms) ≡ false
IsPlaceIn l path (Some at) = (ms : List Member) → AreRows ms l → (m : Member) × (slice_get ms at ≡ Some m) × (m.path ≡ path)

-- at the place of each path of a layout is the place of the resource that a list holds there
abbrev pub StandAt : Layout → List Held → List (Option ℕ) → Type 0
StandAt l hs places =
    (ms : List Member) → AreRows ms l → all_differ bytes_eq (map (λ m. m.path) ms) ≡ true → places ≡ map (λ m. place_among m.path hs) ms

abbrev pub nowhere : Option ℕ
nowhere = None

-- one more resource of a list is noted, which is the next
abbrev pub Notes : Layout → ℕ → Held → List (Option ℕ) → List (Option ℕ) → Type 0
Notes l at h old new = (hs : List Held) → length hs ≡ at → StandAt l hs old → StandAt l (hs ++ h ∷ []) new
