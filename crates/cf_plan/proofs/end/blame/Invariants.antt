use Rattle.std.proofs.Common.{◌≡◌, fold, take}
use Rattle.cf_plan.specs.Blaming.{with_refused}
use Rattle.cf_plan.proofs.end.blame.Given as goal

abbrev pub invariant-loop-held : goal.invariant-loop-held
invariant-loop-held l = l.verdicts ≡ fold (with_refused l.stack.stack) l.fn.verdicts (take l.held-index l.helds)
