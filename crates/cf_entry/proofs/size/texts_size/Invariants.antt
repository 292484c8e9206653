use Rattle.std.proofs.Common.{◌≡◌, ◌+◌, ◌≤◌, ◌^◌, drop, length}
use Rattle.std.specs.List.{flat_map}
use Rattle.cf_tree.specs.SizeOf.{capped}
use Rattle.cf_entry.specs.Bytes.{text_bytes}
use Rattle.cf_entry.proofs.size.texts_size.Given as goal

abbrev pub invariant-loop-text : goal.invariant-loop-text
invariant-loop-text l = record {
  in_range : l.total ≤ 2 ^ 63;
  so_far : capped (4 + length (flat_map text_bytes l.texts)) ≡ capped (l.total + length (flat_map text_bytes (drop l.text-index l.texts)));
}
