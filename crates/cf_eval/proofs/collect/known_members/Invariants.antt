use Rattle.std.proofs.Common.{◌≡◌, [], map, fold}
use Rattle.std.specs.Vec.Iter.{into_iter_items}
use Rattle.cf_eval.specs.Gives.{named_value}
use Rattle.cf_eval.specs.Value.{put_known}
use Rattle.cf_eval.proofs.collect.known_members.Given as goal

abbrev pub invariant-loop-name : goal.invariant-loop-name
invariant-loop-name l = fold put_known [] (map named_value l.fn.bound.items) ≡ fold put_known l.members (map named_value (into_iter_items l.name-iterator))
