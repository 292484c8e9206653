use Rattle.std.proofs.Common.{◌≡◌, ◌++◌, drop, option_map}
use Rattle.serde_json.specs.View.{items_view}
use Rattle.cf_schema.specs.Reading.{texts_in}
use Rattle.cf_schema.proofs.members.texts.Given as goal

abbrev pub invariant-loop-item : goal.invariant-loop-item
invariant-loop-item l =
    texts_in (items_view l.item-items) ≡ option_map (λ ts. l.texts ++ ts) (texts_in (items_view (drop l.item-index l.item-items)))
