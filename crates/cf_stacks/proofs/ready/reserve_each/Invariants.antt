use Rattle.std.proofs.Common.{◌≡◌, map, take}
use Rattle.std.specs.List.{AllByRecursion}
use Rattle.cf_stacks.specs.Standing.{HasOne, calls_in, stack_in}
use Rattle.cf_stacks.proofs.ready.reserve_each.Given as goal

abbrev pub invariant-loop-pair : goal.invariant-loop-pair
invariant-loop-pair l = record {
  stacks : map stack_in l.pair-items ≡ map stack_in l.fn.pairs.items;
  calls : map calls_in l.pair-items ≡ map calls_in l.fn.pairs.items;
  done : AllByRecursion HasOne (take l.pair-index l.pair-items);
}
