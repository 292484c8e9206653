use Rattle.std.proofs.Common.{◌≡◌, [], drop}
use Rattle.serde_json.specs.View.{items_view}
use Rattle.cf_template.specs.Shapes.{items_from}
use Rattle.cf_template.specs.Params.{scalar_of}
use Rattle.cf_template.proofs.param.each_scalar.Given as goal

abbrev pub invariant-loop-item : goal.invariant-loop-item
invariant-loop-item l = record {
  count : l.index ≡ l.item-index;
  so_far : items_from scalar_of (items_view l.item-items) l.at 0 [] ≡ items_from scalar_of (items_view (drop l.item-index l.item-items)) l.at l.item-index l.found;
}
