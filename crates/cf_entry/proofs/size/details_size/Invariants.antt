use Rattle.std.proofs.Common.{◌≡◌, ◌+◌, ◌≤◌, ◌^◌, drop, length}
use Rattle.std.specs.List.{flat_map}
use Rattle.cf_tree.specs.SizeOf.{capped}
use Rattle.cf_entry.specs.Entry.{detail_bytes}
use Rattle.cf_entry.proofs.size.details_size.Given as goal

abbrev pub invariant-loop-detail : goal.invariant-loop-detail
invariant-loop-detail l = record {
  in_range : l.total ≤ 2 ^ 63;
  so_far : capped (4 + length (flat_map detail_bytes l.details)) ≡ capped (l.total + length (flat_map detail_bytes (drop l.detail-index l.details)));
}
