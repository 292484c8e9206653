use Rattle.std.proofs.Common.{◌≡◌, ◌+◌, ◌≤◌, ◌^◌, drop, length}
use Rattle.std.specs.List.{flat_map}
use Rattle.cf_tree.specs.SizeOf.{capped}
use Rattle.cf_entry.specs.Bytes.{pair_bytes}
use Rattle.cf_entry.proofs.size.pairs_size.Given as goal

abbrev pub invariant-loop-pair : goal.invariant-loop-pair
invariant-loop-pair l = record {
  in_range : l.total ≤ 2 ^ 63;
  so_far : capped (4 + length (flat_map pair_bytes l.pairs)) ≡ capped (l.total + length (flat_map pair_bytes (drop l.pair-index l.pairs)));
}
