-- The member of a list that has a name, and lists in which none stands twice (this project's own).
use Rattle.std.specs.Prelude.{ℕ, Bool, true, ◌&&◌, not, List, [], ◌∷◌, Option, find}
use Rattle.std.specs.List.{list_any}
use Rattle.std.specs.Str.{bytes_eq}

-- the first of xs whose name is n
abbrev pub found : {X : Type 0} → (X → List ℕ) → List ℕ → List X → Option X
found name n xs = find (λ x. bytes_eq n (name x)) xs

-- no two of a list are the same, where a test tells which are
abbrev pub all_differ : {A : Type 0} → (A → A → Bool) → List A → Bool
all_differ same [] = true
all_differ same (a ∷ rest) = not (list_any (same a) rest) && all_differ same rest
