use Rattle.std.proofs.Common.{◌≡◌, ◌++◌, drop, string_bytes}
use Rattle.std.specs.List.{concat}
use Rattle.cf_eval.proofs.sub.concatenated.Given as goal

abbrev pub invariant-loop-text : goal.invariant-loop-text
invariant-loop-text l = concat l.texts ≡ string_bytes l.whole ++ concat (drop l.text-index l.texts)
