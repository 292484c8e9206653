use Rattle.std.proofs.Common.{◌≡◌, ◌+◌, ◌*◌}
use Rattle.std.specs.Prelude.{fold}
use Rattle.cf_desired.specs.Kept.{so_far_in, entering_in, scope_by}
use Rattle.cf_desired.specs.Laying.{enterable_below, few, step_by}
use Rattle.cf_desired.proofs.laying.+laying.Given as goal

abbrev pub decreases-lay : goal.decreases-lay
decreases-lay l = 6 * l.left + 5

abbrev pub decreases-contents_of : goal.decreases-contents_of
decreases-contents_of l = 6 * l.left + 4

abbrev pub decreases-work : goal.decreases-work
decreases-work l = 6 * l.left + 3

abbrev pub decreases-step : goal.decreases-step
decreases-step l = 6 * l.left + 2

abbrev pub decreases-nest : goal.decreases-nest
decreases-nest l = 6 * l.left + 1

abbrev pub decreases-within : goal.decreases-within
decreases-within l = 6 * l.left

abbrev pub invariant-work-loop-id : goal.invariant-work-loop-id
invariant-work-loop-id l =
    let step = step_by (enterable_below l.left l.laying.source.now l.laying.seen.now) l.laying.source.now l.laying.seen.now (entering_in l.entering) l.context.conds.now (scope_by l.context) in
    (fold step (so_far_in l.fn.so_far) l.order.entries ≡ fold step (so_far_in l.so_far) l.id-iterator)
    × few l.so_far.count.templates l.so_far.count.members
