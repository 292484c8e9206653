use Rattle.std.proofs.Common.{◌≡◌, take}
use Rattle.cf_next.specs.Restoring.{with_marks}
use Rattle.cf_next.proofs.marks.mark_all.Given as goal

abbrev pub invariant-loop-name : goal.invariant-loop-name
invariant-loop-name l = l.marks ≡ with_marks (take l.name-index l.names) l.fn.marks
