-- What waits for what, while resources are put in the order of work (this project's own).
use Rattle.std.specs.Prelude.{◌≡◌, ℕ, ◌<◌, ◌⊎◌, Bool, true, not, ◌&&◌, List, [], ◌∷◌, ◌++◌, Option, Some, None, length, is_some, slice_index_or, nat_eq, nat_lt, count_by}
use Rattle.std.specs.Str.{bytes_eq}
use Rattle.std.specs.Ordering.{nat_cmp}
use Rattle.std.specs.BTreeMap.{BTreeMap}
use Rattle.std.specs.BTreeSet.{BTreeSet, contains}
use Rattle.std.specs.Prelude.{Vec}
use Rattle.std.specs.declared.alloc.Global.{Global}
use Rattle.cf_tree.specs.Keys.{value_at}
use Rattle.cf_graph.specs.Noted.{places_noted}

-- how often a name stands among names, and a place among places
abbrev pub times : List ℕ → List (List ℕ) → ℕ
times name names = count_by (λ n. bytes_eq name n) names

abbrev pub copies : ℕ → List ℕ → ℕ
copies place places = count_by (λ p. nat_eq place p) places

abbrev pub row_name : List (List ℕ × List (List ℕ)) → ℕ → List ℕ
row_name all p = (slice_index_or all p ([], [])).0

abbrev pub row_needs : List (List ℕ × List (List ℕ)) → ℕ → List (List ℕ)
row_needs all p = (slice_index_or all p ([], [])).1

-- how many of the names have not come
abbrev pub unmet : List (List ℕ × List (List ℕ)) → List (List ℕ) → ℕ
unmet placed names = count_by (λ n. not (is_some (value_at n placed))) names

-- under each name stand the places of those that need it
abbrev pub WaitsFor : List (List ℕ × List (List ℕ)) → BTreeMap (List ℕ) (Vec ℕ Global) → Type 0
WaitsFor all waiting = (q : List ℕ) (p : ℕ) → copies p (places_noted waiting q) ≡ times q (row_needs all p)

-- a place whose resource needs nothing
abbrev pub needs_nothing : List (List ℕ × List (List ℕ)) → ℕ → Bool
needs_nothing all p = nat_lt p (length all) && nat_eq (length (row_needs all p)) 0

-- the resource at a place has come
abbrev pub has_come : List (List ℕ × List (List ℕ)) → List (List ℕ × List (List ℕ)) → ℕ → Bool
has_come all placed p = is_some (value_at (row_name all p) placed)

-- the first place of the ready ones whose resource has not come, and the ready ones without it and those before it
pub record IsNextPlace (all placed : List (List ℕ × List (List ℕ))) (old new : BTreeSet ℕ) (p : ℕ) : Type 0 where
  pub ready : contains nat_cmp old p ≡ true
  pub open_still : value_at (row_name all p) placed ≡ None
  pub first : (q : ℕ) → q < p → contains nat_cmp old q ≡ true → has_come all placed q ≡ true
  pub fewer : (q : ℕ) → contains nat_cmp new q ≡ true → contains nat_cmp old q ≡ true
  pub others : (q : ℕ) → contains nat_cmp old q ≡ true → (q ≡ p) ⊎ (has_come all placed q ≡ true) ⊎ (contains nat_cmp new q ≡ true)

-- or all ready ones have come
pub record IsNoPlace (all placed : List (List ℕ × List (List ℕ))) (old new : BTreeSet ℕ) : Type 0 where
  pub all_came : (q : ℕ) → contains nat_cmp old q ≡ true → has_come all placed q ≡ true
  pub fewer : (q : ℕ) → contains nat_cmp new q ≡ true → contains nat_cmp old q ≡ true

abbrev pub GivesNext : List (List ℕ × List (List ℕ)) → List (List ℕ × List (List ℕ)) → BTreeSet ℕ → BTreeSet ℕ → Option ℕ → Type 0
GivesNext all placed old new None = IsNoPlace all placed old new
GivesNext all placed old new (Some p) = IsNextPlace all placed old new p

-- what has come, with what comes next, where there is one
abbrev pub with_next : List (List ℕ × List (List ℕ)) → Option (List ℕ × List (List ℕ)) → List (List ℕ × List (List ℕ))
with_next placed None = placed
with_next placed (Some r) = placed ++ r ∷ []
