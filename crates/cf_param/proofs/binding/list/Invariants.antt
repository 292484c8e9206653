use Rattle.std.proofs.Common.{◌≡◌, ◌++◌, map}
use Rattle.std.specs.Vec.Iter.{into_iter_items}
use Rattle.cf_tree.specs.Datum.{text}
use Rattle.cf_param.proofs.binding.list.Given as goal

abbrev pub invariant-loop-part : goal.invariant-loop-part
invariant-loop-part l = map text l.fn.parts ≡ l.values ++ map text (into_iter_items l.part-iterator)
