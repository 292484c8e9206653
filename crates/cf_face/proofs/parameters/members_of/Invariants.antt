use Rattle.std.proofs.Common.{◌≡◌, ◌++◌, map, string_bytes}
use Rattle.std.specs.Vec.Iter.{into_iter_items}
use Rattle.cf_funcs.specs.Pieces.{members_of}
use Rattle.cf_face.proofs.parameters.members_of.Given as goal

abbrev pub invariant-loop-text : goal.invariant-loop-text
invariant-loop-text l = members_of l.fn.text ≡ l.members.items ++ map string_bytes (into_iter_items l.text-iterator)
