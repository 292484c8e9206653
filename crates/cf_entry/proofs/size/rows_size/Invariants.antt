use Rattle.std.proofs.Common.{◌≡◌, ◌+◌, ◌≤◌, ◌^◌, drop, length}
use Rattle.std.specs.List.{flat_map}
use Rattle.cf_tree.specs.SizeOf.{capped}
use Rattle.cf_entry.specs.Entry.{row_bytes}
use Rattle.cf_entry.proofs.size.rows_size.Given as goal

abbrev pub invariant-loop-row : goal.invariant-loop-row
invariant-loop-row l = record {
  in_range : l.total ≤ 2 ^ 63;
  so_far : capped (4 + length (flat_map row_bytes l.rows)) ≡ capped (l.total + length (flat_map row_bytes (drop l.row-index l.rows)));
}
