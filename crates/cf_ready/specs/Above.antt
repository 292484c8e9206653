-- What a row of flags keeps above itself (this project's own).
use Rattle.std.specs.Prelude.{◌≡◌, ◌≤◌, Bool, List, length}
use Rattle.cf_ready.specs.declared.flags.Above.{Above}
use Rattle.cf_ready.specs.declared.flags.Above.TheVariants.{Top, Half}
use Rattle.cf_ready.specs.Halved.{halved}

abbrev pub IsAbove : List Bool → Above → Type 0
IsAbove bits Top = length bits ≤ 1
IsAbove bits (Half above) = (above.value ≡ halved bits) × (2 ≤ length bits)
