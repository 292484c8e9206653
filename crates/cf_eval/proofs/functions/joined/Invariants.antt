use Rattle.std.proofs.Common.{◌≡◌, ◌++◌, drop, string_bytes}
use Rattle.cf_eval.specs.Functions.{joined_by, led_by}
use Rattle.cf_eval.proofs.functions.joined.Given as goal

abbrev pub invariant-loop-text : goal.invariant-loop-text
invariant-loop-text l = joined_by l.delimiter l.texts ≡ string_bytes l.joined ++ led_by l.delimiter (drop l.text-index l.rest)
