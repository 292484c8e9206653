use Rattle.std.proofs.Common.{◌+◌, ◌*◌}
use Rattle.cf_tree.specs.Form.{node_of, fields_in}
use Rattle.cf_tree.specs.Forms.{parts_of_form, parts_of_node, parts_of_forms, parts_of_fields, forms_of, fields_of}
use Rattle.cf_tables.proofs.formed.+form.Given as goal

abbrev pub decreases-expr_form : goal.decreases-expr_form
decreases-expr_form l = 4 * parts_of_form l.expr.now

abbrev pub decreases-part_form : goal.decreases-part_form
decreases-part_form l = 4 * parts_of_form l.expr.now + 1

abbrev pub decreases-node_form : goal.decreases-node_form
decreases-node_form l = 4 * parts_of_node (node_of l.node.now) + 3

abbrev pub decreases-list_form : goal.decreases-list_form
decreases-list_form l = 4 * parts_of_forms (forms_of l.items.now)

abbrev pub decreases-fields_form : goal.decreases-fields_form
decreases-fields_form l = 4 * parts_of_fields (fields_of (fields_in l.pairs.now))
