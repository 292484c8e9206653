use Rattle.std.proofs.Common.{◌≡◌, ◌+◌, ◌*◌, ◌++◌, drop}
use Rattle.cf_tree.specs.Form.{node_of, fields_in}
use Rattle.cf_tree.specs.Forms.{parts_of_form, parts_of_node, parts_of_forms, parts_of_fields, forms_of, fields_of}
use Rattle.cf_graph.specs.Mentions.{forms_mentions, fields_mentions}
use Rattle.cf_graph.specs.Needs.{holds_in}
use Rattle.cf_graph.specs.Mentioned.{mentioned}
use Rattle.cf_graph.proofs.mentions.+mentions.Given as goal

abbrev pub decreases-mentions : goal.decreases-mentions
decreases-mentions l = 4 * parts_of_form l.expr.now

abbrev pub decreases-node_mentions : goal.decreases-node_mentions
decreases-node_mentions l = 4 * parts_of_node (node_of l.node.now) + 2

abbrev pub decreases-taken_mentions : goal.decreases-taken_mentions
decreases-taken_mentions l = 4 * (parts_of_form l.yes.now + parts_of_form l.other.now) + 4

abbrev pub decreases-list_mentions : goal.decreases-list_mentions
decreases-list_mentions l = 4 * parts_of_forms (forms_of l.items.now) + 1

abbrev pub decreases-field_mentions : goal.decreases-field_mentions
decreases-field_mentions l = 4 * parts_of_fields (fields_of (fields_in l.pairs.now)) + 1

abbrev pub invariant-list_mentions-loop-item : goal.invariant-list_mentions-loop-item
invariant-list_mentions-loop-item l =
    mentioned l.initial.found.items ++ forms_mentions (holds_in l.conds) (forms_of l.items) ≡ mentioned l.found.items ++ forms_mentions (holds_in l.conds) (forms_of (drop l.item-index l.item-items))

abbrev pub invariant-field_mentions-loop-pair : goal.invariant-field_mentions-loop-pair
invariant-field_mentions-loop-pair l =
    mentioned l.initial.found.items ++ fields_mentions (holds_in l.conds) (fields_of (fields_in l.pairs)) ≡ mentioned l.found.items ++ fields_mentions (holds_in l.conds) (fields_of (fields_in (drop l.pair-index l.pairs)))

abbrev pub decreases-sub_mentions : goal.decreases-sub_mentions
decreases-sub_mentions l = 4 * parts_of_fields (fields_of l.map.now) + 2
