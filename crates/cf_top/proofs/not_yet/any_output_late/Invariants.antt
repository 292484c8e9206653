use Rattle.std.proofs.Common.{◌≡◌, drop}
use Rattle.std.specs.List.{list_any}
use Rattle.cf_top.specs.NotYet.{is_output_late}
use Rattle.cf_top.proofs.not_yet.any_output_late.Given as goal

abbrev pub invariant-loop-output : goal.invariant-loop-output
invariant-loop-output l = list_any is_output_late l.output-items ≡ list_any is_output_late (drop l.output-index l.output-items)
