use Rattle.std.proofs.Common.{◌≡◌, ◌+◌, ◌≤◌, ◌^◌, drop, length}
use Rattle.std.specs.List.{flat_map}
use Rattle.cf_tree.specs.SizeOf.{capped}
use Rattle.cf_entry.specs.Bytes.{pair_bytes}
use Rattle.cf_entry.proofs.size.templates_size.Given as goal

abbrev pub invariant-loop-template : goal.invariant-loop-template
invariant-loop-template l = record {
  in_range : l.total ≤ 2 ^ 63;
  so_far : capped (4 + length (flat_map pair_bytes l.templates)) ≡ capped (l.total + length (flat_map pair_bytes (drop l.template-index l.templates)));
}
