use Rattle.std.proofs.Common.{◌≡◌, drop}
use Rattle.cf_param.specs.Binding.{undeclared}
use Rattle.cf_param.proofs.binding.undeclared.Given as goal

abbrev pub invariant-loop-pair : goal.invariant-loop-pair
invariant-loop-pair l = undeclared l.params l.pair-items ≡ undeclared l.params (drop l.pair-index l.pair-items)
