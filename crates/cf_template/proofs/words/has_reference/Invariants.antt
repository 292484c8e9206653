use Rattle.std.proofs.Common.{◌≡◌, drop}
use Rattle.cf_template.specs.Words.{has_reference}
use Rattle.cf_template.proofs.words.has_reference.Given as goal

abbrev pub invariant-loop-at : goal.invariant-loop-at
invariant-loop-at l = has_reference l.bytes ≡ has_reference (drop l.at l.bytes)
