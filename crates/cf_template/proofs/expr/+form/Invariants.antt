use Rattle.std.proofs.Common.{◌≡◌, drop}
use Rattle.serde_json.specs.View.{items_view, members_view}
use Rattle.cf_template.specs.Exprs.{forms_in, fields_in}
use Rattle.cf_template.proofs.expr.+form.Given as goal

abbrev pub invariant-push_values-loop-item : goal.invariant-push_values-loop-item
invariant-push_values-loop-item l = record {
  count : l.index ≡ l.item-index;
  so_far : forms_in l.params (items_view l.item-items) l.at 0 l.fn.found ≡ forms_in l.params (items_view (drop l.item-index l.item-items)) l.at l.item-index l.found;
}

abbrev pub invariant-put_fields-loop-name : goal.invariant-put_fields-loop-name
invariant-put_fields-loop-name l = fields_in l.params (members_view l.members.entries) l.at l.fn.found ≡ fields_in l.params (members_view l.name-iterator) l.at l.found
