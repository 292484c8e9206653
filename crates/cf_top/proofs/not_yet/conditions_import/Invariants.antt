use Rattle.std.proofs.Common.{◌≡◌, drop}
use Rattle.std.specs.List.{list_any}
use Rattle.cf_top.specs.NotYet.{test_imports}
use Rattle.cf_top.proofs.not_yet.conditions_import.Given as goal

abbrev pub invariant-loop-cond : goal.invariant-loop-cond
invariant-loop-cond l = list_any (λ c. test_imports c.1) l.cond-items ≡ list_any (λ c. test_imports c.1) (drop l.cond-index l.cond-items)
