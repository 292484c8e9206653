use Rattle.std.proofs.Common.{◌≡◌, take}
use Rattle.cf_plan.specs.Blaming.{bad_among}
use Rattle.cf_plan.proofs.end.bad_among.Given as goal

abbrev pub invariant-loop-verdict : goal.invariant-loop-verdict
invariant-loop-verdict l = l.names ≡ bad_among (take l.verdict-index l.verdicts)
