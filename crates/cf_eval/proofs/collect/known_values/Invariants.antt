use Rattle.std.proofs.Common.{◌≡◌, ◌++◌, map, filter_map}
use Rattle.std.specs.Vec.Iter.{into_iter_items}
use Rattle.cf_eval.specs.Gives.{got_value}
use Rattle.cf_eval.proofs.collect.known_values.Given as goal

abbrev pub invariant-loop-got : goal.invariant-loop-got
invariant-loop-got l = filter_map (λ o. o) (map got_value l.fn.gots.items) ≡ l.values ++ filter_map (λ o. o) (map got_value (into_iter_items l.got-iterator))
