use Rattle.std.proofs.Common.{◌≡◌, true, false, fold, take}
use Rattle.cf_plan.specs.StatesKept.{with_mark}
use Rattle.cf_plan.proofs.states.add_marks.Given as goal

abbrev pub invariant-loop-call : goal.invariant-loop-call
invariant-loop-call l =
    (l.marks.updated.items ≡ fold (with_mark l.layout.places true l.number) l.fn.marks.updated.items (take l.call-index l.calls))
    × (l.marks.answered.items ≡ fold (with_mark l.layout.places false l.number) l.fn.marks.answered.items (take l.call-index l.calls))
