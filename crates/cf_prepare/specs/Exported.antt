-- Which exports are asked for: those of a stack, or those of the others (this project's own).
use Rattle.std.specs.Prelude.{ℕ, Bool, not, List, if◌then◌else◌}
use Rattle.std.specs.Str.{bytes_eq}
use Rattle.cf_export.specs.declared.Export.{Export}

abbrev pub is_exported_by : Bool → List ℕ → Export → Bool
is_exported_by own name e = if own then bytes_eq name e.stack else not (bytes_eq name e.stack)
