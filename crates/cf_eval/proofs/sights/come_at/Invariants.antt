use Rattle.std.proofs.Common.{◌≡◌, drop}
use Rattle.cf_tree.specs.Keys.{value_at}
use Rattle.cf_eval.proofs.sights.come_at.Given as goal

abbrev pub invariant-loop-one : goal.invariant-loop-one
invariant-loop-one l = value_at l.id l.come ≡ value_at l.id (drop l.one-index l.come)
