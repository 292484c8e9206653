use Rattle.std.proofs.Common.{◌≡◌, drop}
use Rattle.std.specs.List.{list_any}
use Rattle.cf_top.specs.NotYet.{is_late}
use Rattle.cf_top.proofs.not_yet.any_late.Given as goal

abbrev pub invariant-loop-resource : goal.invariant-loop-resource
invariant-loop-resource l = list_any is_late l.resource-items ≡ list_any is_late (drop l.resource-index l.resource-items)
