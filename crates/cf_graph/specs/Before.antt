-- Which of two names comes first in a list of rows, and whether each row of a list needs only what comes before it (this
-- project's own).
use Rattle.std.specs.Prelude.{ℕ, Bool, false, List, Option, Some, map, nat_lt}
use Rattle.std.specs.List.{list_all, position}
use Rattle.std.specs.Str.{bytes_eq}

abbrev pub row_place : List (List ℕ × List (List ℕ)) → List ℕ → Option ℕ
row_place placed name = position (bytes_eq name) (map (λ r. r.0) placed)

-- of two places that are there, whether the first is the smaller
abbrev pub is_earlier : Option ℕ → Option ℕ → Bool
is_earlier (Some i) (Some j) = nat_lt i j
is_earlier _ _ = false

abbrev pub comes_before : List (List ℕ × List (List ℕ)) → List ℕ → List ℕ → Bool
comes_before placed need name = is_earlier (row_place placed need) (row_place placed name)

-- all that each needs comes before it
abbrev pub needs_first : List (List ℕ × List (List ℕ)) → List (List ℕ × List (List ℕ)) → Bool
needs_first placed all = list_all (λ r. list_all (λ n. comes_before placed n r.0) r.1) all
