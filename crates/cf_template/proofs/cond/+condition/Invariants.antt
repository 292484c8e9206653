use Rattle.std.proofs.Common.{◌≡◌, drop}
use Rattle.serde_json.specs.View.{items_view}
use Rattle.cf_template.specs.Conds.{tests_in}
use Rattle.cf_template.proofs.cond.+condition.Given as goal

abbrev pub invariant-push_each-loop-item : goal.invariant-push_each-loop-item
invariant-push_each-loop-item l = record {
  count : l.index ≡ l.item-index;
  so_far : tests_in l.params (items_view l.item-items) l.at 0 l.fn.found ≡ tests_in l.params (items_view (drop l.item-index l.item-items)) l.at l.item-index l.found;
}
