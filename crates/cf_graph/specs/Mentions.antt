-- Which names an expression refers to in the places that are evaluated (template reference: Ref, Fn::GetAtt, Fn::Sub, and of Fn::If the
-- taken branch alone).
use Rattle.std.specs.Prelude.{ℕ, Bool, true, false, List, [], ◌∷◌, ◌++◌, Option, Some, None, map, flat_map, is_some, codes, if◌then◌else◌}
use Rattle.cf_funcs.specs.Pieces.{cut_at}
use Rattle.cf_tree.specs.Keys.{value_at}
use Rattle.cf_tree.specs.Forms.{Form, Node, Forms, Fields, expr, lit, ref, get_att, sub, join, select, split, choice, find_in_map, import_value, base64, no_forms, form, no_fields, field, fields_of}
use Rattle.cf_tree.specs.Forms as node
use Rattle.cf_tree.specs.declared.parts.Part.{Part}
use Rattle.cf_tree.specs.declared.parts.Part.TheVariants.{Plain, Name}

-- a name as Ref has it, which may be a parameter's; or a resource whose attribute is wanted
pub data Mention : Type 0 where
  by_ref : List ℕ → Mention
  by_attribute : List ℕ → Mention

-- a hole of a text, cut at its first dot
abbrev pub hole : List ℕ → Option (List ℕ × List ℕ) → Mention
hole name None = by_ref name
hole name (Some cut) = by_attribute cut.0

-- the holes of a text but those that its own map fills
abbrev pub holes_in : List (List ℕ) → Part → List Mention
holes_in own (Plain t) = []
holes_in own (Name name) = if is_some (value_at name (map (λ k. (k, true)) own)) then [] else hole name (cut_at (codes ".") name) ∷ []

abbrev pub keys_of : Fields → List (List ℕ)
keys_of no_fields = []
keys_of (field k e ps) = k ∷ keys_of ps

-- of two branches the one that is taken; of a condition that is not declared neither is
abbrev pub taken_branch : Option Bool → List Mention → List Mention → List Mention
taken_branch None y n = []
taken_branch (Some true) y n = y
taken_branch (Some false) y n = n

-- the names that an expression refers to, where `holds` tells of each declared condition whether it is true
abbrev mutual
  pub mentions_of : (List ℕ → Option Bool) → Form → List Mention
  mentions_of holds (expr at n) = node_mentions holds n

  pub node_mentions : (List ℕ → Option Bool) → Node → List Mention
  node_mentions holds (lit d) = []
  node_mentions holds (node.list es) = forms_mentions holds es
  node_mentions holds (node.dict ps) = fields_mentions holds ps
  node_mentions holds (ref name) = by_ref name ∷ []
  node_mentions holds (get_att id a) = by_attribute id ∷ mentions_of holds a
  node_mentions holds (sub parts own) = fields_mentions holds own ++ flat_map (holes_in (keys_of own)) parts
  node_mentions holds (join d e) = mentions_of holds e
  node_mentions holds (select i e) = mentions_of holds i ++ mentions_of holds e
  node_mentions holds (split d e) = mentions_of holds e
  node_mentions holds (choice name y n) = taken_branch (holds name) (mentions_of holds y) (mentions_of holds n)
  node_mentions holds (find_in_map m k l) = mentions_of holds m ++ (mentions_of holds k ++ mentions_of holds l)
  node_mentions holds (import_value e) = mentions_of holds e
  node_mentions holds (base64 e) = mentions_of holds e

  pub forms_mentions : (List ℕ → Option Bool) → Forms → List Mention
  forms_mentions holds no_forms = []
  forms_mentions holds (form e es) = mentions_of holds e ++ forms_mentions holds es

  pub fields_mentions : (List ℕ → Option Bool) → Fields → List Mention
  fields_mentions holds no_fields = []
  fields_mentions holds (field k e ps) = mentions_of holds e ++ fields_mentions holds ps
