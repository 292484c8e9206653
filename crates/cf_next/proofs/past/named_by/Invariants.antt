use Rattle.std.proofs.Common.{◌≡◌, [], fold, take}
use Rattle.cf_effect.specs.Operation.{named_in}
use Rattle.cf_next.specs.Restoring.{with_marks}
use Rattle.cf_next.proofs.past.named_by.Given as goal

abbrev pub invariant-loop-heard : goal.invariant-loop-heard
invariant-loop-heard l = l.marks ≡ fold (λ ms e. with_marks (named_in e) ms) [] (take l.heard-index l.entries)
