use Rattle.std.proofs.Common.{◌≡◌, drop}
use Rattle.cf_eval.specs.Gives.{any_late}
use Rattle.cf_eval.proofs.collect.any_late.Given as goal

abbrev pub invariant-loop-got : goal.invariant-loop-got
invariant-loop-got l = any_late l.gots ≡ any_late (drop l.got-index l.gots)
