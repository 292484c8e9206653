use Rattle.std.proofs.Common.{◌≡◌, ◌++◌, drop, map}
use Rattle.cf_prepare.proofs.planned.kinds_described.Given as goal

abbrev pub invariant-loop-schema : goal.invariant-loop-schema
invariant-loop-schema l = l.kinds ++ map (λ g. g.kind) (drop l.schema-index l.schemas) ≡ map (λ g. g.kind) l.schemas
