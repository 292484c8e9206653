use Rattle.std.proofs.Common.{◌≡◌, ◌-◌, ◌^◌, take, length, min}
use Rattle.std.specs.Prelude.{sum_by}
use Rattle.cf_engine.proofs.are_short.Given as goal

abbrev pub invariant-loop-word : goal.invariant-loop-word
invariant-loop-word l = l.total ≡ min (sum_by length (take l.word-index l.words)) (2 ^ 64 - 1)
