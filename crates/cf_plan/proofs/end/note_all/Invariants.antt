use Rattle.std.proofs.Common.{◌≡◌, fold, take}
use Rattle.cf_plan.specs.Blaming.{with_outcome}
use Rattle.cf_plan.proofs.end.note_all.Given as goal

abbrev pub invariant-loop-heard : goal.invariant-loop-heard
invariant-loop-heard l = l.verdicts ≡ fold (with_outcome l.stack.stack) l.fn.verdicts (take l.heard-index l.entries)
