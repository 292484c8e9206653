use Rattle.std.proofs.Common.{◌≡◌, drop}
use Rattle.cf_schema.specs.Kinds.{found}
use Rattle.cf_schema.proofs.kinds.Schemas.find.Given as goal

abbrev pub invariant-loop-schema : goal.invariant-loop-schema
invariant-loop-schema l = found l.kind l.schema-items ≡ found l.kind (drop l.schema-index l.schema-items)
