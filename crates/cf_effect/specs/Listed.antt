-- What one stack exports, imports and claims among all stacks (User Guide: exporting stack output values, Fn::ImportValue).
-- Exports stand by name, pins and claims by stack and then by name.
use Rattle.std.specs.Prelude.{Bool, ◌&&◌, ◌||◌, not, ℕ, List, [], Option, Some, None, map, filter, fold, if◌then◌else◌}
use Rattle.std.specs.List.{list_any}
use Rattle.std.specs.Str.{bytes_eq}
use Rattle.cf_tree.specs.Keys.{bytes_lt}
use Rattle.cf_tree.specs.Lists.{insert_by}
use Rattle.cf_tree.specs.declared.source.Source.{Source}
use Rattle.cf_export.specs.declared.Export.{Export}
use Rattle.cf_export.specs.declared.Pin.{Pin}

abbrev pub is_before : Pin → Pin → Bool
is_before a b = bytes_lt a.stack b.stack || (bytes_eq a.stack b.stack && bytes_lt a.name b.name)

abbrev pub not_pin_of : List ℕ → Pin → Bool
not_pin_of name pin = not (bytes_eq name pin.stack)

abbrev pub pin_of : List ℕ → List ℕ → Pin
pin_of name export = record { stack = name; name = export }

-- these names alone are the stack's
abbrev pub repinned : List ℕ → List (List ℕ) → List Pin → List Pin
repinned name names pins = fold (insert_by is_before) (filter (not_pin_of name) pins) (map (pin_of name) names)

-- these names are the stack's beside those that are already
abbrev pub is_same_pin : Pin → Pin → Bool
is_same_pin a b = bytes_eq a.stack b.stack && bytes_eq a.name b.name

abbrev pub pin_also : List Pin → Pin → List Pin
pin_also pins pin = if list_any (is_same_pin pin) pins then pins else insert_by is_before pins pin

abbrev pub pinned_also : List ℕ → List (List ℕ) → List Pin → List Pin
pinned_also name names pins = fold pin_also pins (map (pin_of name) names)

abbrev pub is_export_before : Export → Export → Bool
is_export_before a b = bytes_lt a.name b.name

abbrev pub not_export_of : List ℕ → Export → Bool
not_export_of name e = not (bytes_eq name e.stack)

abbrev pub export_by : List ℕ → List ℕ × List ℕ → Export
export_by stack e = record { name = e.0; value = e.1; stack = stack }

-- these names with their values are all that the stack exports
abbrev pub reexported : List ℕ → List (List ℕ × List ℕ) → List Export → List Export
reexported name exports all = fold (insert_by is_export_before) (filter (not_export_of name) all) (map (export_by name) exports)

-- the names that a source imports
abbrev pub import_names : Option Source → List (List ℕ)
import_names None = []
import_names (Some source) = map (λ p. p.0) source.imports

-- what becomes of a stack's names: they stay, these join them, or these alone are left
pub data NamesAfter : Type 0 where
  Same : NamesAfter
  Also : List (List ℕ) → NamesAfter
  Only : List (List ℕ) → NamesAfter

abbrev pub pins_after : List ℕ → NamesAfter → List Pin → List Pin
pins_after name Same pins = pins
pins_after name (Also names) pins = pinned_also name names pins
pins_after name (Only names) pins = repinned name names pins

-- what becomes of the exports of all stacks: they stay, or these alone are left of the stack
abbrev pub exports_after : List ℕ → Option (List (List ℕ × List ℕ)) → List Export → List Export
exports_after name None all = all
exports_after name (Some exports) all = reexported name exports all
