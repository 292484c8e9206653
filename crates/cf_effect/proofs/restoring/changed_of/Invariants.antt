use Rattle.std.proofs.Common.{◌≡◌, false, fold, replicate, take}
use Rattle.cf_effect.specs.Restoring.{is_change, with_passed}
use Rattle.cf_effect.proofs.restoring.changed_of.Given as goal

abbrev pub invariant-loop-call : goal.invariant-loop-call
invariant-loop-call l = l.marks.items ≡ fold (with_passed is_change l.ids) (replicate l.count false) (take l.call-index l.calls)
