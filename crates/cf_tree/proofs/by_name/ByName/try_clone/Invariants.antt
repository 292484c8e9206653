use Rattle.std.proofs.Common.{◌≡◌, take}
use Rattle.cf_tree.proofs.by_name.ByName.try_clone.Given as goal

abbrev pub invariant-loop-name : goal.invariant-loop-name
invariant-loop-name g l = l.pairs.items ≡ take l.name-index l.name-items
