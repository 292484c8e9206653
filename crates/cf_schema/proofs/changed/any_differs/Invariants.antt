use Rattle.std.proofs.Common.{◌≡◌, drop}
use Rattle.cf_schema.specs.Change.{any_differs}
use Rattle.cf_schema.proofs.changed.any_differs.Given as goal

abbrev pub invariant-loop-name : goal.invariant-loop-name
invariant-loop-name l = any_differs l.names l.old l.new ≡ any_differs (drop l.name-index l.names) l.old l.new
