-- What an expression comes to: one equation for each form, over the values of its parts (template reference, intrinsic functions; the
-- order of parts is this project's own).
use Rattle.std.specs.Prelude.{ℕ, List, [], ◌∷◌, Option, Some, None, Result, Ok, Err, fold, filter_map, map, unwrap_or}
use Rattle.cf_tree.specs.Datum.{Data, list, dict, items_of, members_of}
use Rattle.cf_tree.specs.Keys.{put}
use Rattle.cf_tree.specs.Forms.{Form, Node, Forms, Fields, expr, lit, ref, get_att, sub, join, select, split, choice, find_in_map, import_value, base64, no_forms, form, no_fields, field}
use Rattle.cf_tree.specs.Forms as node
use Rattle.cf_eval.specs.Outcome.{Outcome, Stop, got, later, bad, on_got, each, undeclared_at_fault}
use Rattle.cf_eval.specs.Scope.{Scope}
use Rattle.cf_eval.specs.Texts.{Found, known, within}
use Rattle.cf_eval.specs.Functions.{ref_found, get_att_found, sub_found, join_found, select_found, split_found, if_found, find_found, import_found, base64_found}

-- a list closes up where a member is `AWS::NoValue`
abbrev pub list_found : List Found → Found
list_found parts = on_got (each parts) (λ os. known (list (items_of (filter_map (λ o. o) os))))

-- a member is left out where it is `AWS::NoValue`
abbrev pub put_known : List (List ℕ × Data) → List ℕ × Option Data → List (List ℕ × Data)
put_known ms (name, Some d) = put name d ms
put_known ms (name, None) = ms

abbrev pub named : List ℕ × Found → Outcome (List ℕ × Option Data)
named p = on_got p.1 (λ o. got (p.0, o))

abbrev pub pairs_found : List (List ℕ × Found) → Outcome (List (List ℕ × Data))
pairs_found parts = on_got (each (map named parts)) (λ ps. got (fold put_known [] ps))

abbrev pub dict_found : List (List ℕ × Found) → Found
dict_found parts = on_got (pairs_found parts) (λ ms. known (dict (members_of ms)))

-- where a fault of an expression is blamed: on a function itself; of a value, on the innermost function around it, and else on the value
abbrev pub blamed : Option (List ℕ) → List ℕ → Node → List ℕ
blamed around at (lit d) = unwrap_or around at
blamed around at (node.list es) = unwrap_or around at
blamed around at (node.dict ps) = unwrap_or around at
blamed around at _ = at

abbrev mutual
  -- an expression, where the innermost function around it stands at `around`
  pub form_found : Scope → Option (List ℕ) → Form → Found
  form_found s around (expr at n) = within (blamed around at n) (node_found s around at n)

  pub node_found : Scope → Option (List ℕ) → List ℕ → Node → Found
  node_found s around at (lit d) = known d
  node_found s around at (node.list es) = list_found (forms_found s around es)
  node_found s around at (node.dict ps) = dict_found (fields_found s around ps)
  node_found s around at (ref name) = ref_found s at name
  node_found s around at (get_att id a) = get_att_found s at id (form_found s (Some at) a)
  node_found s around at (sub parts own) = sub_found s at (fields_found s (Some at) own) parts
  node_found s around at (join d e) = join_found at d (form_found s (Some at) e)
  node_found s around at (select i e) = select_found at (form_found s (Some at) i) (form_found s (Some at) e)
  node_found s around at (split d e) = split_found at d (form_found s (Some at) e)
  node_found s around at (choice name y n) = if_found (s.decided at name) (form_found s (Some at) y) (form_found s (Some at) n)
  node_found s around at (find_in_map m k l) =
      find_found s at (form_found s (Some at) m) (form_found s (Some at) k) (form_found s (Some at) l)
  node_found s around at (import_value e) = import_found s at (form_found s (Some at) e)
  node_found s around at (base64 e) = base64_found at (form_found s (Some at) e)

  pub forms_found : Scope → Option (List ℕ) → Forms → List Found
  forms_found s around no_forms = []
  forms_found s around (form e es) = form_found s around e ∷ forms_found s around es

  pub fields_found : Scope → Option (List ℕ) → Fields → List (List ℕ × Found)
  fields_found s around no_fields = []
  fields_found s around (field name e ps) = (name, form_found s around e) ∷ fields_found s around ps

-- what an expression comes to, in a function at a place where there is one
abbrev pub value_within : Scope → Option (List ℕ) → Form → Found
value_within s around e = undeclared_at_fault (form_found s around e)

abbrev pub value_of : Scope → Form → Found
value_of s e = value_within s None e

-- Properties, one by one: one that is `AWS::NoValue` is left out, one that is Later is None; the first fault is the answer.
abbrev pub PropsFound : Type 0
PropsFound = Result (List (List ℕ × Option Data)) Stop

abbrev pub with_prop : List ℕ → Found → PropsFound → PropsFound
with_prop name (bad s) rest = Err s
with_prop name found (Err s) = Err s
with_prop name (got None) (Ok ps) = Ok ps
with_prop name (got (Some d)) (Ok ps) = Ok ((name, Some d) ∷ ps)
with_prop name later (Ok ps) = Ok ((name, None) ∷ ps)

abbrev pub props_of : Scope → List (List ℕ × Form) → PropsFound
props_of s [] = Ok []
props_of s (p ∷ ps) = with_prop p.0 (value_of s p.1) (props_of s ps)
