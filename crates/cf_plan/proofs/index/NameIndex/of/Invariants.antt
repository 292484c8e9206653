use Rattle.std.proofs.Common.{◌≡◌, take}
use Rattle.cf_plan.proofs.index.NameIndex.of.Given as goal

abbrev pub invariant-loop-name : goal.invariant-loop-name
invariant-loop-name l = l.index ≡ take l.name-index l.name-items
