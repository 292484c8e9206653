use Rattle.std.proofs.Common.{◌≡◌, drop, option_map}
use Rattle.cf_tree.specs.Datum.{items_of, parts_of, parts_of_items}
use Rattle.cf_tree.specs.Value.{datum_of, data_of}
use Rattle.cf_eval.specs.Conditions.{compared_items}
use Rattle.cf_eval.proofs.Compared.{compared_after}
use Rattle.cf_eval.proofs.compare.+compared.Given as goal

abbrev pub decreases-compared : goal.decreases-compared
decreases-compared l = parts_of (datum_of l.value.now)

abbrev pub decreases-compared_items : goal.decreases-compared_items
decreases-compared_items l = parts_of_items (items_of l.items.now)

abbrev pub invariant-compared_items-loop-item : goal.invariant-compared_items-loop-item
invariant-compared_items-loop-item l = compared_items (items_of l.items) ≡ option_map items_of (compared_after l.values (items_of (data_of (drop l.item-index l.item-items))))
