use Rattle.std.proofs.Common.{◌≡◌, [], drop}
use Rattle.serde_json.specs.View.{items_view}
use Rattle.cf_template.specs.Shapes.{items_from}
use Rattle.cf_template.specs.Maps.{mapped_text}
use Rattle.cf_template.proofs.mapping.texts.Given as goal

abbrev pub invariant-loop-item : goal.invariant-loop-item
invariant-loop-item l = record {
  count : l.index ≡ l.item-index;
  so_far : items_from mapped_text (items_view l.item-items) l.at 0 [] ≡ items_from mapped_text (items_view (drop l.item-index l.item-items)) l.at l.item-index l.found;
}
