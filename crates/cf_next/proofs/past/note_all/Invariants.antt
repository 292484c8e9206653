use Rattle.std.proofs.Common.{◌≡◌, fold, take}
use Rattle.cf_next.specs.Restoring.{noting_call}
use Rattle.cf_next.proofs.past.note_all.Given as goal

abbrev pub invariant-loop-call : goal.invariant-loop-call
invariant-loop-call l = l.past ≡ fold (noting_call l.number) l.fn.past (take l.call-index l.calls)
