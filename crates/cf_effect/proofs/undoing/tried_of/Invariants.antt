use Rattle.std.proofs.Common.{◌≡◌, false, fold, replicate, take}
use Rattle.cf_effect.specs.Undoing.{with_call}
use Rattle.cf_effect.proofs.undoing.tried_of.Given as goal

abbrev pub invariant-loop-call : goal.invariant-loop-call
invariant-loop-call l = l.tried.items ≡ fold (with_call l.number l.places) (replicate l.count false) (take l.call-index l.calls)
