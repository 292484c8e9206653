-- From which resources a walk along the needs leads back to one (this project's own).
use Rattle.std.specs.Prelude.{◌≡◌, ℕ, suc, Bool, List, [], ◌∷◌, is_some, ⊤}
use Rattle.std.specs.Ordering.{nat_cmp}
use Rattle.std.specs.Cmp.Lexicographic.{slice_cmp}
use Rattle.std.specs.BTreeSet.{BTreeSet, contains}
use Rattle.cf_tree.specs.Keys.{value_at}
use Rattle.cf_tree.specs.Lists.{first_in}
use Rattle.cf_graph.specs.Needs.{walks}

-- a walk of so many steps leads from a resource back to the start
abbrev pub leads_back : List (List ℕ × List (List ℕ)) → List ℕ → ℕ → List ℕ → Bool
leads_back all start n name = is_some (first_in (walks all start n name))

abbrev pub is_on_level : BTreeSet (List ℕ) → List ℕ → Bool
is_on_level names name = contains (slice_cmp nat_cmp) names name

-- the names from which a walk of so many steps leads back
abbrev pub IsLevel : List (List ℕ × List (List ℕ)) → List ℕ → ℕ → BTreeSet (List ℕ) → Type 0
IsLevel all start n names = (q : List ℕ) → is_on_level names q ≡ leads_back all start n q

-- such names for one step after another, from a number of steps on
abbrev pub AreLevels : List (List ℕ × List (List ℕ)) → List ℕ → ℕ → List (BTreeSet (List ℕ)) → Type 0
AreLevels all start n [] = ⊤
AreLevels all start n (l ∷ ls) = IsLevel all start n l × AreLevels all start (suc n) ls

-- the same things stand under the same names
abbrev pub StandAlike : List (List ℕ × List (List ℕ)) → List (List ℕ × List (List ℕ)) → Type 0
StandAlike rows all = (q : List ℕ) → value_at q rows ≡ value_at q all
