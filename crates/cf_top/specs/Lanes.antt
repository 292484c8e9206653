-- The schemas of lanes, one of each type (this project's own).
use Rattle.std.specs.Prelude.{List, [], fold}
use Rattle.cf_schema.specs.declared.described.Schema.{Schema}
use Rattle.cf_schema.specs.Kinds.{with_kind}

-- the schemas, and behind them of each type that they lack the schema of its first lane, in the order handed in
abbrev pub with_each : List Schema → List Schema → List Schema
with_each schemas lanes = fold (λ schemas g. with_kind g schemas) schemas lanes

-- of each type the schema of its first lane
abbrev pub one_of_each : List Schema → List Schema
one_of_each lanes = with_each [] lanes
