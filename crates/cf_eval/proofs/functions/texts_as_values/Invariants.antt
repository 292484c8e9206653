use Rattle.std.proofs.Common.{◌≡◌, ◌++◌, map, drop, string_bytes}
use Rattle.cf_tree.specs.Datum.{text}
use Rattle.cf_eval.proofs.functions.texts_as_values.Given as goal

abbrev pub invariant-loop-text : goal.invariant-loop-text
invariant-loop-text l = map text (map string_bytes l.texts) ≡ l.values ++ map text (map string_bytes (drop l.text-index l.texts))
