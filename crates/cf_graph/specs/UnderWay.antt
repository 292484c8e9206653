-- What holds while resources are put in the order of work (this project's own).
use Rattle.std.specs.Prelude.{◌≡◌, ℕ, ◌<◌, ◌⊎◌, true, List, length, slice_index_or}
use Rattle.std.specs.Ordering.{nat_cmp}
use Rattle.std.specs.BTreeSet.{BTreeSet, contains}
use Rattle.cf_graph.specs.declared.sequence.Progress.{Progress}
use Rattle.cf_graph.specs.Waiting.{unmet, row_needs, has_come}

-- the needs of each that have not come are counted, and the ready ones are those without, but for some that have come
pub record MissingAreCounted (all placed : List (List ℕ × List (List ℕ))) (missing : List ℕ) (ready : BTreeSet ℕ) : Type 0 where
  pub long : length missing ≡ length all
  pub counted : (p : ℕ) → p < length all → slice_index_or missing p 0 ≡ unmet placed (row_needs all p)
  pub listed : (p : ℕ) → p < length all → slice_index_or missing p 0 ≡ 0 → (has_come all placed p ≡ true)
      ⊎ (contains nat_cmp ready p ≡ true)
  pub free : (p : ℕ) → contains nat_cmp ready p ≡ true → (p < length all) × (slice_index_or missing p 0 ≡ 0)

abbrev pub IsOrdering : List (List ℕ × List (List ℕ)) → Progress → Type 0
IsOrdering all progress = MissingAreCounted all progress.placed.entries progress.missing.items progress.ready
