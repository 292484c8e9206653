-- Maps of names that are made once by a walk over a list, where each resource is looked up in them (this project's own).
use Rattle.std.specs.Prelude.{ℕ, Bool, List, Option, Some, None, is_some, if◌then◌else◌}
use Rattle.cf_tree.specs.Keys.{put, value_at}

-- whether there is something under a name
abbrev pub has_key : {V : Type 0} → List ℕ → List (List ℕ × V) → Bool
has_key name map = is_some (value_at name map)

-- a value joins under its name, where it has one and nothing is under it: so each name keeps the first
abbrev pub with_first : {V : Type 0} → List ℕ → V → List (List ℕ × V) → List (List ℕ × V)
with_first name v map = if has_key name map then map else put name v map

abbrev pub with_named : {V : Type 0} → Option (List ℕ) → V → List (List ℕ × V) → List (List ℕ × V)
with_named None v map = map
with_named (Some name) v map = with_first name v map
