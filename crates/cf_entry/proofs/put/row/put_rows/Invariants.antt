use Rattle.std.proofs.Common.{◌≡◌, ◌+◌, ◌≤◌, ◌<◌, ◌^◌, ◌++◌, length, drop, vec_len, vec_capacity}
use Rattle.std.specs.List.{flat_map, AllByRecursion}
use Rattle.cf_entry.specs.Bytes.{list_bytes}
use Rattle.cf_entry.specs.Entry.{row_bytes, HasNamed, IsRow}
use Rattle.cf_entry.proofs.put.row.put_rows.Given as goal

abbrev pub invariant-loop-row : goal.invariant-loop-row
invariant-loop-row l = record {
  small : length (flat_map row_bytes (drop l.row-index l.rows)) < 2 ^ 32;
  room : vec_len l.to + length (flat_map row_bytes (drop l.row-index l.rows)) ≤ vec_capacity l.to;
  so_far : l.to.items ++ flat_map row_bytes (drop l.row-index l.rows) ≡ l.fn.to.items ++ list_bytes row_bytes l.rows;
  so_long : vec_len l.to + length (flat_map row_bytes (drop l.row-index l.rows)) ≡ vec_len l.fn.to + length (list_bytes row_bytes l.rows);
  capacity : vec_capacity l.fn.to ≤ vec_capacity l.to;
  named : AllByRecursion HasNamed l.rows → AllByRecursion HasNamed (drop l.row-index l.rows);
  fits : AllByRecursion HasNamed l.rows → AllByRecursion IsRow (drop l.row-index l.rows) → AllByRecursion IsRow l.rows;
}
