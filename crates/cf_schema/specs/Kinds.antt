-- Lists of schemas, at most one of each type (this project's own).
use Rattle.std.specs.Prelude.{ℕ, List, [], ◌∷◌, ◌++◌, Bool, Option, Some, None, find}
use Rattle.std.specs.Str.{bytes_eq}
use Rattle.cf_tree.specs.Named.{all_differ}
use Rattle.cf_schema.specs.declared.described.Schema.{Schema}

-- the schema of a type
abbrev pub found : List ℕ → List Schema → Option Schema
found kind ss = find (λ s. bytes_eq kind s.kind) ss

-- no two schemas are of one type
abbrev pub kinds_distinct : List Schema → Bool
kinds_distinct = all_differ (λ s t. bytes_eq s.kind t.kind)

-- the schemas, and behind them s where none is of its type
abbrev pub with_kind : Schema → List Schema → List Schema
with_kind s ss = added (found s.kind ss)
  where
    added : Option Schema → List Schema
    added None = ss ++ s ∷ []
    added (Some t) = ss
