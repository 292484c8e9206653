-- Names as a set, so that one is found by halves (this project's own).
use Rattle.std.specs.Prelude.{◌≡◌, ℕ, Bool, List, is_some}
use Rattle.cf_tree.specs.Keys.{value_at}
use Rattle.cf_tree.specs.Lists.{is_among}

-- a set has just these names
abbrev pub IsSetOf : List (List ℕ) → List (List ℕ × Bool) → Type 0
IsSetOf names set = (p : List ℕ) → is_some (value_at p set) ≡ is_among p names
