-- What a test of texts against a pattern tells (this project's own).
use Rattle.std.specs.Prelude.{◌≡◌, ℕ, List, Bool, true, false, if◌then◌else◌, Option, Some, None, Result, Ok, Err, ⊤}
use Rattle.cf_param.specs.declared.patterns.PatternFault.{PatternFault}
use Rattle.cf_param.specs.declared.patterns.PatternFault.TheVariants.{BadPattern, NoMemory}
use Rattle.cf_param.specs.declared.constraints.Breach.{Breach}
use Rattle.cf_param.specs.declared.constraints.Breach.TheVariants as breach
use Rattle.cf_param.specs.Pattern.{any_unmatched, is_pattern, is_usable}

abbrev pub IsPatternFault : List ℕ → PatternFault → Type 0
IsPatternFault pattern BadPattern = is_pattern pattern ≡ false
IsPatternFault pattern NoMemory = ⊤

-- the test is made of a usable pattern, and else the pattern is to blame
abbrev pub TestsPattern : List ℕ → List (List ℕ) → Result Bool PatternFault → Type 0
TestsPattern pattern ts (Ok b) = (is_usable pattern ≡ true) × (b ≡ any_unmatched pattern ts)
TestsPattern pattern ts (Err BadPattern) = is_usable pattern ≡ false
TestsPattern pattern ts (Err NoMemory) = ⊤

-- the first constraint on a pattern that the texts break
abbrev pub breach_by : List ℕ → List (List ℕ) → Option Breach
breach_by pattern ts =
    if is_usable pattern then (if any_unmatched pattern ts then Some breach.NoMatch else None) else Some breach.BadPattern
