use Rattle.std.proofs.Common.{◌≡◌, ◌++◌, string_bytes}
use Rattle.cf_load.specs.Text.{records_text}
use Rattle.cf_load.proofs.push_records.Given as goal

abbrev pub invariant-loop-made : goal.invariant-loop-made
invariant-loop-made l = string_bytes l.text ≡ string_bytes l.initial.text ++ records_text l.made
