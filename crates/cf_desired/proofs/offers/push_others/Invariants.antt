use Rattle.std.proofs.Common.{◌≡◌, ◌++◌, codes, drop, string_bytes}
use Rattle.cf_eval.specs.Functions.{led_by}
use Rattle.cf_desired.proofs.offers.push_others.Given as goal

abbrev pub invariant-loop-text : goal.invariant-loop-text
invariant-loop-text l = string_bytes l.all ++ led_by (codes ",") (drop l.text-index l.texts) ≡ string_bytes l.fn.all ++ led_by (codes ",") l.texts
