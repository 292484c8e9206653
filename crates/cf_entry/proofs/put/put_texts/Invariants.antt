use Rattle.std.proofs.Common.{◌≡◌, ◌+◌, ◌≤◌, ◌<◌, ◌^◌, ◌++◌, length, drop, vec_len, vec_capacity}
use Rattle.std.specs.List.{flat_map, AllByRecursion}
use Rattle.cf_entry.specs.Bytes.{text_bytes, list_bytes, IsText}
use Rattle.cf_entry.proofs.put.put_texts.Given as goal

abbrev pub invariant-loop-text : goal.invariant-loop-text
invariant-loop-text l = record {
  small : length (flat_map text_bytes (drop l.text-index l.texts)) < 2 ^ 32;
  room : vec_len l.to + length (flat_map text_bytes (drop l.text-index l.texts)) ≤ vec_capacity l.to;
  so_far : l.to.items ++ flat_map text_bytes (drop l.text-index l.texts) ≡ l.fn.to.items ++ list_bytes text_bytes l.texts;
  so_long : vec_len l.to + length (flat_map text_bytes (drop l.text-index l.texts)) ≡ vec_len l.fn.to + length (list_bytes text_bytes l.texts);
  capacity : vec_capacity l.fn.to ≤ vec_capacity l.to;
  fits : AllByRecursion IsText (drop l.text-index l.texts) → AllByRecursion IsText l.texts;
}
