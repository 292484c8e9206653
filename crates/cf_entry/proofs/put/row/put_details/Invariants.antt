use Rattle.std.proofs.Common.{◌≡◌, ◌+◌, ◌≤◌, ◌<◌, ◌^◌, ◌++◌, length, drop, vec_len, vec_capacity}
use Rattle.std.specs.List.{flat_map, AllByRecursion}
use Rattle.cf_entry.specs.Bytes.{list_bytes}
use Rattle.cf_entry.specs.Entry.{detail_bytes, IsNamed, IsDetail}
use Rattle.cf_entry.proofs.put.row.put_details.Given as goal

abbrev pub invariant-loop-detail : goal.invariant-loop-detail
invariant-loop-detail l = record {
  small : length (flat_map detail_bytes (drop l.detail-index l.details)) < 2 ^ 32;
  room : vec_len l.to + length (flat_map detail_bytes (drop l.detail-index l.details)) ≤ vec_capacity l.to;
  so_far : l.to.items ++ flat_map detail_bytes (drop l.detail-index l.details) ≡ l.fn.to.items ++ list_bytes detail_bytes l.details;
  so_long : vec_len l.to + length (flat_map detail_bytes (drop l.detail-index l.details)) ≡ vec_len l.fn.to + length (list_bytes detail_bytes l.details);
  capacity : vec_capacity l.fn.to ≤ vec_capacity l.to;
  named : AllByRecursion IsNamed l.details → AllByRecursion IsNamed (drop l.detail-index l.details);
  fits : AllByRecursion IsNamed l.details → AllByRecursion IsDetail (drop l.detail-index l.details) → AllByRecursion IsDetail l.details;
}
