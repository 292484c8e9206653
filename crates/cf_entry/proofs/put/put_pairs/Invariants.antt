use Rattle.std.proofs.Common.{◌≡◌, ◌+◌, ◌≤◌, ◌<◌, ◌^◌, ◌++◌, length, drop, vec_len, vec_capacity}
use Rattle.std.specs.List.{flat_map, AllByRecursion}
use Rattle.cf_entry.specs.Bytes.{pair_bytes, list_bytes, IsPair}
use Rattle.cf_entry.proofs.put.put_pairs.Given as goal

abbrev pub invariant-loop-pair : goal.invariant-loop-pair
invariant-loop-pair l = record {
  small : length (flat_map pair_bytes (drop l.pair-index l.pairs)) < 2 ^ 32;
  room : vec_len l.to + length (flat_map pair_bytes (drop l.pair-index l.pairs)) ≤ vec_capacity l.to;
  so_far : l.to.items ++ flat_map pair_bytes (drop l.pair-index l.pairs) ≡ l.fn.to.items ++ list_bytes pair_bytes l.pairs;
  so_long : vec_len l.to + length (flat_map pair_bytes (drop l.pair-index l.pairs)) ≡ vec_len l.fn.to + length (list_bytes pair_bytes l.pairs);
  capacity : vec_capacity l.fn.to ≤ vec_capacity l.to;
  fits : AllByRecursion IsPair (drop l.pair-index l.pairs) → AllByRecursion IsPair l.pairs;
}
