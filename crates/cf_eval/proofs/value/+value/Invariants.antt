use Rattle.std.proofs.Common.{◌≡◌, ◌+◌, ◌*◌, ◌++◌, map, drop}
use Rattle.std.specs.Option.{option_copied}
use Rattle.cf_tree.specs.Form.{node_of, fields_in}
use Rattle.cf_tree.specs.Forms.{parts_of_form, parts_of_node, parts_of_forms, parts_of_fields, forms_of, fields_of}
use Rattle.cf_eval.specs.Value.{forms_found, fields_found}
use Rattle.cf_eval.specs.Gives.{got_found, member_found}
use Rattle.cf_eval.specs.ScopeOf.{scope_of}
use Rattle.cf_eval.proofs.value.+value.Given as goal

abbrev pub decreases-value : goal.decreases-value
decreases-value l = 4 * parts_of_form l.expr.now

abbrev pub decreases-node_value : goal.decreases-node_value
decreases-node_value l = 4 * parts_of_node (node_of l.node.now) + 2

abbrev pub decreases-values : goal.decreases-values
decreases-values l = 4 * parts_of_forms (forms_of l.items.now) + 1

abbrev pub decreases-bindings : goal.decreases-bindings
decreases-bindings l = 4 * parts_of_fields (fields_of l.pairs.now) + 1

abbrev pub invariant-values-loop-item : goal.invariant-values-loop-item
invariant-values-loop-item l = forms_found (scope_of l.scope) (option_copied l.around) (forms_of l.items) ≡ map got_found l.gots.items ++ forms_found (scope_of l.scope) (option_copied l.around) (forms_of (drop l.item-index l.item-items))

abbrev pub invariant-bindings-loop-pair : goal.invariant-bindings-loop-pair
invariant-bindings-loop-pair l = fields_found (scope_of l.scope) (option_copied l.around) (fields_of l.pairs) ≡ map member_found l.bound.items ++ fields_found (scope_of l.scope) (option_copied l.around) (fields_of (fields_in (drop l.pair-index l.pair-items)))

abbrev pub decreases-select_value : goal.decreases-select_value
decreases-select_value l = 4 * (parts_of_form l.index.now + parts_of_form l.list.now) + 4

abbrev pub decreases-if_value : goal.decreases-if_value
decreases-if_value l = 4 * (parts_of_form l.yes.now + parts_of_form l.other.now) + 4

abbrev pub decreases-find_value : goal.decreases-find_value
decreases-find_value l = 4 * (parts_of_form l.map.now + parts_of_form l.first.now + parts_of_form l.second.now) + 4

abbrev pub decreases-dict_value : goal.decreases-dict_value
decreases-dict_value l = 4 * parts_of_fields (fields_of l.pairs.now) + 2

abbrev pub decreases-sub_value : goal.decreases-sub_value
decreases-sub_value l = 4 * parts_of_fields (fields_of l.map.now) + 2
