use Rattle.std.proofs.Common.{◌≡◌, ◌+◌, ◌*◌, drop}
use Rattle.cf_tree.specs.Form.{node_of, fields_in}
use Rattle.cf_tree.specs.Forms.{parts_of_form, parts_of_node, parts_of_forms, parts_of_fields, forms_of, fields_of}
use Rattle.cf_top.specs.NotYet.{forms_import, fields_import}
use Rattle.cf_top.proofs.not_yet.+imports.Given as goal

abbrev pub decreases-imports : goal.decreases-imports
decreases-imports l = 4 * parts_of_form l.expr.now

abbrev pub decreases-node_imports : goal.decreases-node_imports
decreases-node_imports l = 4 * parts_of_node (node_of l.node.now) + 2

abbrev pub decreases-forms_import : goal.decreases-forms_import
decreases-forms_import l = 4 * parts_of_forms (forms_of l.items.now) + 1

abbrev pub decreases-fields_import : goal.decreases-fields_import
decreases-fields_import l = 4 * parts_of_fields (fields_of l.pairs.now) + 1

abbrev pub invariant-forms_import-loop-item : goal.invariant-forms_import-loop-item
invariant-forms_import-loop-item l = forms_import (forms_of l.items) ≡ forms_import (forms_of (drop l.item-index l.item-items))

abbrev pub invariant-fields_import-loop-pair : goal.invariant-fields_import-loop-pair
invariant-fields_import-loop-pair l = fields_import (fields_of l.pairs) ≡ fields_import (fields_of (fields_in (drop l.pair-index l.pair-items)))
