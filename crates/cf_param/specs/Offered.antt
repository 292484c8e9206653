-- What is given for parameters (this project's own): each name once.
use Rattle.std.specs.Prelude.{ℕ, List, Bool}
use Rattle.std.specs.List.{list_any}
use Rattle.std.specs.Str.{bytes_eq}
use Rattle.cf_tree.specs.Named.{all_differ}

-- a name stands among the pairs
abbrev pub has_name : {X : Type 0} → List ℕ → List (List ℕ × X) → Bool
has_name name ps = list_any (λ p. bytes_eq name p.0) ps

-- no name stands twice
abbrev pub names_distinct : {X : Type 0} → List (List ℕ × X) → Bool
names_distinct = all_differ (λ p q. bytes_eq p.0 q.0)
