-- An expression is larger than what it holds (this project's own).
use Rattle.std.specs.Prelude.{◌+◌, ◌≤◌, List, [], ◌∷◌}
use Rattle.std.proofs.Common.{arith}
use denote.Param.Weighed.{most}
use Rattle.cf_tree.specs.Forms.{Form, parts_of_form, parts_of_node, parts_of_forms, parts_of_fields, forms_of, fields_of}
use Rattle.cf_tree.specs.Form.{node_of, fields_in}
use Rattle.cf_tree.specs.declared.expr.ExprNode.{ExprNode}
use Rattle.cf_tree.specs.declared.expr.ExprPair.{ExprPair}
use Rattle.cf_tree.specs.declared.expr.ExprNode.TheVariants as node
use Rattle.cf_tree.specs.declared.expr.Expr.TheDeep.{deep-ExprNode, deep-ExprPair}

pub deep_le-node : (n : ExprNode) → deep-ExprNode n ≤ parts_of_node (node_of n) + 1
deep_le-node (node.Lit v) = omega arith
deep_le-node (node.List es) = omega arith
deep_le-node (node.Dict ps) = omega arith
deep_le-node (node.Ref t) = omega arith
deep_le-node (node.GetAtt t e) = omega arith
deep_le-node (node.Sub qs ps) = omega arith
deep_le-node (node.Join t e) = omega arith
deep_le-node (node.Select e f) = omega arith
deep_le-node (node.Split t e) = omega arith
deep_le-node (node.If t e f) = omega arith
deep_le-node (node.FindInMap e f g) = omega arith
deep_le-node (node.Import e) = omega arith
deep_le-node (node.Base64 e) = omega arith

pub most_le-forms : (es : List Form) → most (λ (f : Form). parts_of_form f + 1) es ≤ parts_of_forms (forms_of es)
most_le-forms [] = omega arith
most_le-forms (e ∷ es) = omega (arith, most_le-forms es)

pub most_le-fields : (ps : List ExprPair) → most deep-ExprPair ps ≤ parts_of_fields (fields_of (fields_in ps))
most_le-fields [] = omega arith
most_le-fields (p ∷ ps) = omega (arith, most_le-fields ps)
