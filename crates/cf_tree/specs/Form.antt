-- What the expressions of the crate stand for (this project's own).
use Rattle.std.specs.Prelude.{ℕ, List, map}
use Rattle.cf_tree.specs.Forms.{Form, Node, lit, list, dict, ref, get_att, sub, join, select, split, choice, find_in_map, import_value, base64, forms_of, fields_of}
use Rattle.cf_tree.specs.Value.{datum_of}
use Rattle.cf_tree.specs.declared.expr.ExprNode.{ExprNode}
use Rattle.cf_tree.specs.declared.expr.ExprPair.{ExprPair}
use Rattle.cf_tree.specs.declared.expr.ExprNode.TheVariants as node

abbrev pub node_of : ExprNode → Node
node_of (node.Lit v) = lit (datum_of v)
node_of (node.List es) = list (forms_of es)
node_of (node.Dict ps) = dict (fields_of ps)
node_of (node.Ref t) = ref t
node_of (node.GetAtt t e) = get_att t e.value
node_of (node.Sub qs ps) = sub qs (fields_of ps)
node_of (node.Join t e) = join t e.value
node_of (node.Select e f) = select e.value f.value
node_of (node.Split t e) = split t e.value
node_of (node.If t e f) = choice t e.value f.value
node_of (node.FindInMap e f g) = find_in_map e.value f.value g.value
node_of (node.Import e) = import_value e.value
node_of (node.Base64 e) = base64 e.value

-- a pair as its name and what its expression stands for
abbrev pub field_of : ExprPair → List ℕ × Form
field_of p = (p.name, p.value)

abbrev pub fields_in : List ExprPair → List (List ℕ × Form)
fields_in ps = map field_of ps
