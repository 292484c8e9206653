use Rattle.std.proofs.Common.{◌≡◌, drop}
use Rattle.cf_eval.specs.Functions.{why_not}
use Rattle.cf_eval.proofs.names.barred.Given as goal

abbrev pub invariant-loop-resource : goal.invariant-loop-resource
invariant-loop-resource l = why_not l.name l.resources ≡ why_not l.name (drop l.resource-index l.resource-items)
