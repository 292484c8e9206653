-- The values of a template (template reference, intrinsic functions): what stands in properties, outputs and conditions, as an expression,
-- or the first refusal, an outer place before an inner one and members in byte order.
use Rattle.std.specs.Prelude.{ℕ, suc, ℤ, List, [], ◌∷◌, ◌++◌, ◌||◌, length, nat_lt, codes, Bool, Option, Some, None, Result, Ok, Err, if◌then◌else◌}
use Rattle.serde_json.specs.Data.{Data, null, boolean, number, string, array, object, Items, no_items, item, Members, no_members, member}
use Rattle.serde_json.specs.Find.{as_i64}
use Rattle.cf_funcs.specs.Pieces.{cut_at}
use Rattle.cf_tree.specs.Datum as tree
use Rattle.cf_tree.specs.Keys.{put}
use Rattle.cf_tree.specs.Forms.{Form, Node, Fields, expr, lit, ref, get_att, sub, join, select, split, choice, find_in_map, import_value, base64, forms_of, fields_of, no_fields}
use Rattle.cf_tree.specs.Forms as forms
use Rattle.cf_tree.specs.declared.parts.Part.{Part}
use Rattle.cf_tree.specs.declared.template.Param.{Param}
use Rattle.cf_template.specs.declared.refusal.TemplateFault.TheVariants.{WrongShape, Unsupported}
use Rattle.cf_template.specs.declared.function.Function.{Function}
use Rattle.cf_template.specs.declared.function.Function.TheVariants.{Ref, GetAtt, Sub, Join, Split, Select, FindInMap, If, ImportValue, Base64}
use Rattle.cf_template.specs.declared.subs.SubFault.{SubFault}
use Rattle.cf_template.specs.Refusals.{Reading, after, mapped, provided}
use Rattle.cf_template.specs.Places.{member_place, item_at}
use Rattle.cf_template.specs.Words.{has_reference}
use Rattle.cf_template.specs.Functions.{function_in, has_function, stray_object, is_declared, is_pseudo}
use Rattle.cf_template.specs.Subs.{parts_of}

-- a literal text: none that holds a dynamic reference
abbrev pub literal : List ℕ → List ℕ → Reading (List ℕ)
literal t at = if has_reference t then Err (Unsupported at (codes "{{resolve:")) else Ok t

-- a literal text where only a text may stand
abbrev pub literal_text : Data → List ℕ → Reading (List ℕ)
literal_text (string t) at = literal t at
literal_text d at = Err (WrongShape at)

-- a whole number; that no other stands there is seen before
abbrev pub whole_number : Option ℤ → List ℕ → Reading ℤ
whole_number None at = Err (WrongShape at)
whole_number (Some z) at = Ok z

-- literal values as expressions
abbrev pub text_form : List ℕ → List ℕ → Form
text_form at t = expr at (lit (tree.text t))

-- a text cut at its first dot: a logical id and the name of an attribute
abbrev pub dotted : List ℕ → Option (List ℕ × List ℕ) → Reading Node
dotted at None = Err (WrongShape at)
dotted at (Some c) = Ok (get_att c.0 (text_form at c.1))

-- a text with holes
abbrev pub holes : List ℕ → Result (List Part) SubFault → Reading (List Part)
holes at (Ok ps) = Ok ps
holes at (Err e) = Err (WrongShape at)

abbrev pub holed_text : Data → List ℕ → Reading (List Part)
holed_text d at = after (literal_text d at) (λ t. holes at (parts_of t))

-- a delimiter at which texts are cut: a literal text that isn't empty
abbrev pub delimiter : Data → List ℕ → Reading (List ℕ)
delimiter d at = after (literal_text d at) (λ t. provided (nat_lt 0 (length t)) (WrongShape at) (Ok t))

-- a function object that may only be a `Ref`, of a name that passes a test
abbrev pub reference : (List ℕ → Bool) → Function → Members → List ℕ → Reading Form
reference may Ref (member k d ms) at =
    after (literal_text d (member_place at k)) (λ t. provided (may t) (WrongShape at) (Ok (expr at (ref t))))
reference may f ms at = Err (stray_object ms at)

-- the attribute of `Fn::GetAtt`: a text, or a `Ref` of a declared parameter
abbrev pub attribute_form : List Param → Data → List ℕ → Reading Form
attribute_form ps (string t) at = mapped (text_form at) (literal t at)
attribute_form ps (object ms) at = if has_function ms then reference (is_declared ps) (function_in ms) ms at else Err (WrongShape at)
attribute_form ps d at = Err (WrongShape at)

-- the argument of `Fn::GetAtt`: a logical id and an attribute, or both in one text
abbrev pub get_att_of : List Param → Data → List ℕ → Reading Node
get_att_of ps (string t) at = after (literal t at) (λ t. dotted at (cut_at (codes ".") t))
get_att_of ps (array (item a (item b no_items))) at =
    after (literal_text a (item_at at 0)) (λ id. mapped (get_att id) (attribute_form ps b (item_at at 1)))
get_att_of ps d at = Err (WrongShape at)

-- what `Fn::FindInMap` may refer to: a declared parameter, or a pseudo parameter that has a value
abbrev pub may_find : List Param → List ℕ → Bool
may_find ps k = is_declared ps k || is_pseudo k

-- the three arguments of `Fn::FindInMap`: each a text, a `Ref`, or a `Fn::FindInMap`
abbrev mutual
  pub find_of : List Param → Data → List ℕ → Reading Node
  find_of ps (array (item a (item b (item c no_items)))) at =
      after (key_of ps a (item_at at 0)) (λ x. after (key_of ps b (item_at at 1))
      (λ y. mapped (find_in_map x y) (key_of ps c (item_at at 2))))
  find_of ps d at = Err (WrongShape at)

  pub key_of : List Param → Data → List ℕ → Reading Form
  key_of ps (string t) at = mapped (text_form at) (literal t at)
  key_of ps (object ms) at = if has_function ms then key_call ps (function_in ms) ms at else Err (WrongShape at)
  key_of ps d at = Err (WrongShape at)

  pub key_call : List Param → Function → Members → List ℕ → Reading Form
  key_call ps FindInMap (member k d ms) at = mapped (expr at) (find_of ps d (member_place at k))
  key_call ps f ms at = reference (may_find ps) f ms at

-- a value
abbrev mutual
  pub form_of : List Param → Data → List ℕ → Reading Form
  form_of ps null at = Err (WrongShape at)
  form_of ps (boolean b) at = Ok (expr at (lit (tree.truth b)))
  form_of ps (number n) at = mapped (λ z. expr at (lit (tree.whole z))) (whole_number (as_i64 n) at)
  form_of ps (string t) at = mapped (text_form at) (literal t at)
  form_of ps (array ds) at = mapped (λ fs. expr at (forms.list (forms_of fs))) (forms_in ps ds at 0 [])
  form_of ps (object ms) at =
      if has_function ms then mapped (expr at) (call_of ps (function_in ms) ms at) else mapped (λ fs. expr at (forms.dict (fields_of fs)))
      (fields_in ps ms at [])

  -- the items of a list behind those found before
  pub forms_in : List Param → Items → List ℕ → ℕ → List Form → Reading (List Form)
  forms_in ps no_items at i found = Ok found
  forms_in ps (item d ds) at i found = after (form_of ps d (item_at at i)) (λ f. forms_in ps ds at (suc i) (found ++ f ∷ []))

  -- the members of an object put into those found before
  pub fields_in : List Param → Members → List ℕ → List (List ℕ × Form) → Reading (List (List ℕ × Form))
  fields_in ps no_members at found = Ok found
  fields_in ps (member k d ms) at found = after (form_of ps d (member_place at k)) (λ f. fields_in ps ms at (put k f found))

  -- each function of values with its argument
  pub call_of : List Param → Function → Members → List ℕ → Reading Node
  call_of ps Ref (member k d ms) at = mapped ref (literal_text d (member_place at k))
  call_of ps GetAtt (member k d ms) at = get_att_of ps d (member_place at k)
  call_of ps Sub (member k d ms) at = sub_of ps d (member_place at k)
  call_of ps Join (member k d ms) at = join_of ps d (member_place at k)
  call_of ps Split (member k d ms) at = split_of ps d (member_place at k)
  call_of ps Select (member k d ms) at = select_of ps d (member_place at k)
  call_of ps FindInMap (member k d ms) at = find_of ps d (member_place at k)
  call_of ps If (member k d ms) at = choice_of ps d (member_place at k)
  call_of ps ImportValue (member k d ms) at = mapped import_value (form_of ps d (member_place at k))
  call_of ps Base64 (member k d ms) at = mapped base64 (form_of ps d (member_place at k))
  call_of ps f ms at = Err (stray_object ms at)

  -- a text with holes, or such a text and a map of values for its names
  pub sub_of : List Param → Data → List ℕ → Reading Node
  sub_of ps (string t) at = mapped (λ qs. sub qs no_fields) (holed_text (string t) at)
  sub_of ps (array (item a (item b no_items))) at =
      after (holed_text a (item_at at 0)) (λ qs. mapped (λ fs. sub qs (fields_of fs)) (map_of ps b (item_at at 1)))
  sub_of ps d at = Err (WrongShape at)

  pub map_of : List Param → Data → List ℕ → Reading (List (List ℕ × Form))
  map_of ps (object ms) at = if has_function ms then Err (stray_object ms at) else fields_in ps ms at []
  map_of ps d at = Err (WrongShape at)

  pub join_of : List Param → Data → List ℕ → Reading Node
  join_of ps (array (item a (item b no_items))) at =
      after (literal_text a (item_at at 0)) (λ t. mapped (join t) (form_of ps b (item_at at 1)))
  join_of ps d at = Err (WrongShape at)

  pub split_of : List Param → Data → List ℕ → Reading Node
  split_of ps (array (item a (item b no_items))) at =
      after (delimiter a (item_at at 0)) (λ t. mapped (split t) (form_of ps b (item_at at 1)))
  split_of ps d at = Err (WrongShape at)

  pub select_of : List Param → Data → List ℕ → Reading Node
  select_of ps (array (item a (item b no_items))) at =
      after (form_of ps a (item_at at 0)) (λ f. mapped (select f) (form_of ps b (item_at at 1)))
  select_of ps d at = Err (WrongShape at)

  -- the name of a condition, and a value for each outcome
  pub choice_of : List Param → Data → List ℕ → Reading Node
  choice_of ps (array (item a (item b (item c no_items)))) at =
      after (literal_text a (item_at at 0)) (λ t. after (form_of ps b (item_at at 1))
      (λ f. mapped (choice t f) (form_of ps c (item_at at 2))))
  choice_of ps d at = Err (WrongShape at)

-- an object that is a map of values and no function, as `Properties` is
abbrev pub values_of : List Param → Data → List ℕ → Reading (List (List ℕ × Form))
values_of ps d at = map_of ps d at
