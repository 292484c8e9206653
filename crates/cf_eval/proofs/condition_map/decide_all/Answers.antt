use Rattle.std.proofs.Common.{◌≡◌, true, subst}
use Rattle.cf_eval.specs.Deciding.{context_scope}
use Rattle.cf_eval.proofs.Gots.{drop_item}
use Rattle.cf_eval.proofs.Settling.{settling_first, settling_stops, settling_ascends, item_stands}
use Rattle.std.proofs.Math.ListN.{drop_of_length-le}
use Rattle.cf_tree.specs.Keys.{ascends}
use Rattle.cf_eval.proofs.condition_map.decide_all.Goals as goal

pub loop-condition-init : goal.loop-condition-init
loop-condition-init c = settling_first (context_scope c.args.context.now) c.args.context.now.conds.now _ _ _ c.as_slice-condition-items.ensures.value c.new-done.ensures c.new-verdicts.ensures.items

pub settle-requires-clause-declared : goal.settle-requires-clause-declared
settle-requires-clause-declared c =
    item_stands c.args.context.now.conds.now c.as_slice-condition-items.result.now c.loop-condition.condition-index c.condition-item.result
    c.as_slice-condition-items.ensures.value c.as_slice-condition-items.ensures.in_order c.loop-condition-test.true c.condition-item.is

pub returns-in-Err : goal.returns-in-Err
returns-in-Err c =
    settling_stops (context_scope c.args.context.now) c.args.context.now.conds.now _ _ c.loop-condition.done c.loop-condition.verdicts.items c.condition-item.result c.in-Err.stop c.loop-condition.invariant
    (drop_item c.as_slice-condition-items.result.now c.loop-condition.condition-index c.condition-item.result c.loop-condition-test.true c.condition-item.is) c.in-Err.ensures

pub from_vec-requires : goal.from_vec-requires
from_vec-requires c =
    settling_ascends (context_scope c.args.context.now) c.args.context.now.conds.now _ c.loop-condition.done c.loop-condition.verdicts.items c.loop-condition.invariant
    (drop_of_length-le c.as_slice-condition-items.result.now c.loop-condition-test.false)
    (subst (λ cs. ascends cs ≡ true) c.as_slice-condition-items.ensures.value c.as_slice-condition-items.ensures.in_order)
