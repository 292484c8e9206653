use Rattle.std.proofs.Common.{◌≡◌, ◌+◌, ◌≤◌, ◌<◌, ◌^◌, ◌++◌, length, drop, vec_len, vec_capacity}
use Rattle.std.specs.List.{flat_map, AllByRecursion}
use Rattle.cf_entry.specs.Bytes.{pair_bytes, list_bytes, IsTemplate}
use Rattle.cf_entry.proofs.put.put_templates.Given as goal

abbrev pub invariant-loop-template : goal.invariant-loop-template
invariant-loop-template l = record {
  small : length (flat_map pair_bytes (drop l.template-index l.templates)) < 2 ^ 32;
  room : vec_len l.to + length (flat_map pair_bytes (drop l.template-index l.templates)) ≤ vec_capacity l.to;
  so_far : l.to.items ++ flat_map pair_bytes (drop l.template-index l.templates) ≡ l.fn.to.items ++ list_bytes pair_bytes l.templates;
  so_long : vec_len l.to + length (flat_map pair_bytes (drop l.template-index l.templates)) ≡ vec_len l.fn.to + length (list_bytes pair_bytes l.templates);
  capacity : vec_capacity l.fn.to ≤ vec_capacity l.to;
  fits : AllByRecursion IsTemplate (drop l.template-index l.templates) → AllByRecursion IsTemplate l.templates;
}
