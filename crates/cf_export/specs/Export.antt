-- What exports and pins are asked (User Guide, exporting stack output values: a name is unique, and an export that is imported can't be
-- taken away).
use Rattle.std.specs.Prelude.{ℕ, Bool, List, ◌&&◌, not}
use Rattle.std.specs.Str.{bytes_eq}
use Rattle.cf_export.specs.declared.Export.{Export}
use Rattle.cf_export.specs.declared.Pin.{Pin}

-- the export has this name
abbrev pub holds_name : List ℕ → Export → Bool
holds_name name export = bytes_eq export.name name

-- the pin is of this name, and of another stack than this one
abbrev pub pins_name : List ℕ → List ℕ → Pin → Bool
pins_name name except pin = bytes_eq pin.name name && not (bytes_eq pin.stack except)
