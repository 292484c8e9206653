use Rattle.std.proofs.Common.{◌≡◌, ◌++◌, drop, option_map}
use Rattle.cf_tree.specs.Datum.{items_of}
use Rattle.cf_tree.specs.Value.{data_of}
use Rattle.cf_desired.specs.Given.{item_texts}
use Rattle.cf_desired.proofs.offers.texts_of.Given as goal

abbrev pub invariant-loop-item : goal.invariant-loop-item
invariant-loop-item l = item_texts (items_of l.fn.items) ≡ option_map (λ ts. l.texts ++ ts) (item_texts (items_of (data_of (drop l.item-index l.item-items))))
