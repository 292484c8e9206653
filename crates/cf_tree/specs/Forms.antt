-- What an expression of a template is (template reference, intrinsic functions): a literal value, a list or an object of expressions, or a
-- function.
use Rattle.std.specs.Prelude.{◌≡◌, ℕ, ◌+◌, ◌==◌, List, [], ◌∷◌, if◌then◌else◌, refl}
use Rattle.std.proofs.Common.{ap}
use Rattle.std.specs.Coded.{Coded, code_by}
use Rattle.cf_tree.specs.Datum.{Data, Items, Members, data_code}
use Rattle.cf_tree.specs.Datum as datum
use Rattle.cf_tree.specs.declared.parts.Part.{Part}
use Rattle.cf_tree.specs.declared.parts.Part.TheVariants as part

mutual
  -- an expression: its place, and what stands there
  pub data Form : Type 0 where
    expr : List ℕ → Node → Form

  pub data Node : Type 0 where
    lit : Data → Node
    list : Forms → Node
    dict : Fields → Node
    ref : List ℕ → Node
    get_att : List ℕ → Form → Node
    sub : List Part → Fields → Node
    join : List ℕ → Form → Node
    select : Form → Form → Node
    split : List ℕ → Form → Node
    choice : List ℕ → Form → Form → Node
    find_in_map : Form → Form → Form → Node
    import_value : Form → Node
    base64 : Form → Node

  pub data Forms : Type 0 where
    no_forms : Forms
    form : Form → Forms → Forms

  pub data Fields : Type 0 where
    no_fields : Fields
    field : List ℕ → Form → Fields → Fields

abbrev pub forms_of : List Form → Forms
forms_of [] = no_forms
forms_of (f ∷ fs) = form f (forms_of fs)

abbrev pub fields_of : List (List ℕ × Form) → Fields
fields_of [] = no_fields
fields_of (p ∷ ps) = field p.0 p.1 (fields_of ps)

-- the place of an expression, and what stands there
abbrev pub place_of : Form → List ℕ
place_of (expr at n) = at

abbrev pub node_in : Form → Node
node_in (expr at n) = n

-- how many parts it is made of
abbrev mutual
  pub parts_of_form : Form → ℕ
  parts_of_form (expr at n) = parts_of_node n + 1

  pub parts_of_node : Node → ℕ
  parts_of_node (lit d) = 1
  parts_of_node (list fs) = parts_of_forms fs + 1
  parts_of_node (dict ps) = parts_of_fields ps + 1
  parts_of_node (ref t) = 1
  parts_of_node (get_att t f) = parts_of_form f + 1
  parts_of_node (sub qs ps) = parts_of_fields ps + 1
  parts_of_node (join t f) = parts_of_form f + 1
  parts_of_node (select f g) = parts_of_form f + parts_of_form g + 1
  parts_of_node (split t f) = parts_of_form f + 1
  parts_of_node (choice t f g) = parts_of_form f + parts_of_form g + 1
  parts_of_node (find_in_map f g h) = parts_of_form f + parts_of_form g + parts_of_form h + 1
  parts_of_node (import_value f) = parts_of_form f + 1
  parts_of_node (base64 f) = parts_of_form f + 1

  pub parts_of_forms : Forms → ℕ
  parts_of_forms no_forms = 1
  parts_of_forms (form f fs) = parts_of_form f + parts_of_forms fs + 1

  pub parts_of_fields : Fields → ℕ
  parts_of_fields no_fields = 1
  parts_of_fields (field t f ps) = parts_of_form f + parts_of_fields ps + 1

-- an expression as a value, by which it is kept: the kind of function and its text first, then its arguments
abbrev headed : List ℕ → ℕ → List ℕ → Items → Members → Members
headed at n t xs ms = datum.member at (datum.list (datum.item (datum.text (n ∷ t)) xs)) ms

abbrev part_data : Part → Data
part_data (part.Plain t) = datum.text (0 ∷ t)
part_data (part.Name t) = datum.text (1 ∷ t)

abbrev parts_data : List Part → Items
parts_data [] = datum.no_items
parts_data (q ∷ qs) = datum.item (part_data q) (parts_data qs)

abbrev mutual
  form_data : Form → Data
  form_data (expr at n) = datum.dict (node_data at n)

  node_data : List ℕ → Node → Members
  node_data at (lit d) = headed at 0 [] (datum.item d datum.no_items) datum.no_members
  node_data at (list fs) = headed at 1 [] (forms_data fs) datum.no_members
  node_data at (dict ps) = headed at 2 [] datum.no_items (fields_data ps)
  node_data at (ref t) = headed at 3 t datum.no_items datum.no_members
  node_data at (get_att t f) = headed at 4 t (datum.item (form_data f) datum.no_items) datum.no_members
  node_data at (sub qs ps) = headed at 5 [] (parts_data qs) (fields_data ps)
  node_data at (join t f) = headed at 6 t (datum.item (form_data f) datum.no_items) datum.no_members
  node_data at (select f g) = headed at 7 [] (datum.item (form_data f) (datum.item (form_data g) datum.no_items)) datum.no_members
  node_data at (split t f) = headed at 8 t (datum.item (form_data f) datum.no_items) datum.no_members
  node_data at (choice t f g) = headed at 9 t (datum.item (form_data f) (datum.item (form_data g) datum.no_items)) datum.no_members
  node_data at (find_in_map f g h) =
      headed at 10 [] (datum.item (form_data f) (datum.item (form_data g) (datum.item (form_data h) datum.no_items))) datum.no_members
  node_data at (import_value f) = headed at 11 [] (datum.item (form_data f) datum.no_items) datum.no_members
  node_data at (base64 f) = headed at 12 [] (datum.item (form_data f) datum.no_items) datum.no_members

  forms_data : Forms → Items
  forms_data no_forms = datum.no_items
  forms_data (form f fs) = datum.item (form_data f) (forms_data fs)

  fields_data : Fields → Members
  fields_data no_fields = datum.no_members
  fields_data (field t f ps) = datum.member t (form_data f) (fields_data ps)

abbrev part_from : ℕ → List ℕ → Part
part_from n t = if n == 0 then part.Plain t else part.Name t

abbrev parts_from : Items → List Part
parts_from datum.no_items = []
parts_from (datum.item (datum.text (n ∷ t)) xs) = part_from n t ∷ parts_from xs
parts_from (datum.item d xs) = []

abbrev no_form : Form
no_form = expr [] (ref [])

abbrev first_data : Items → Data
first_data datum.no_items = datum.text []
first_data (datum.item d xs) = d

abbrev first_form : Forms → Form
first_form no_forms = no_form
first_form (form f fs) = f

abbrev others : Forms → Forms
others no_forms = no_forms
others (form f fs) = fs

abbrev node_from : ℕ → List ℕ → Items → Forms → Fields → Node
node_from n t xs fs ps =
    if n == 0 then lit (first_data xs)
    else if n == 1 then list fs
    else if n == 2 then dict ps
    else if n == 3 then ref t
    else if n == 4 then get_att t (first_form fs)
    else if n == 5 then sub (parts_from xs) ps
    else if n == 6 then join t (first_form fs)
    else if n == 7 then select (first_form fs) (first_form (others fs))
    else if n == 8 then split t (first_form fs)
    else if n == 9 then choice t (first_form fs) (first_form (others fs))
    else if n == 10 then find_in_map (first_form fs) (first_form (others fs)) (first_form (others (others fs)))
    else if n == 11 then import_value (first_form fs)
    else base64 (first_form fs)

abbrev mutual
  form_from : Data → Form
  form_from (datum.dict (datum.member at (datum.list (datum.item (datum.text (n ∷ t)) xs)) ms)) =
      expr at (node_from n t xs (forms_from xs) (fields_from ms))
  form_from d = no_form

  forms_from : Items → Forms
  forms_from datum.no_items = no_forms
  forms_from (datum.item d xs) = form (form_from d) (forms_from xs)

  fields_from : Members → Fields
  fields_from datum.no_members = no_fields
  fields_from (datum.member t d ms) = field t (form_from d) (fields_from ms)

parts_back : (qs : List Part) → parts_from (parts_data qs) ≡ qs
parts_back [] = refl
parts_back (part.Plain t ∷ qs) = ap (λ (rs : List Part). part.Plain t ∷ rs) (parts_back qs)
parts_back (part.Name t ∷ qs) = ap (λ (rs : List Part). part.Name t ∷ rs) (parts_back qs)

mutual
  form_back : (f : Form) → form_from (form_data f) ≡ f
  form_back (expr at n) = node_back at n

  node_back : (at : List ℕ) (n : Node) → form_from (datum.dict (node_data at n)) ≡ expr at n
  node_back at (lit d) = refl
  node_back at (list fs) = λ i. expr at (list (forms_back fs i))
  node_back at (dict ps) = λ i. expr at (dict (fields_back ps i))
  node_back at (ref t) = refl
  node_back at (get_att t f) = λ i. expr at (get_att t (form_back f i))
  node_back at (sub qs ps) = λ i. expr at (sub (parts_back qs i) (fields_back ps i))
  node_back at (join t f) = λ i. expr at (join t (form_back f i))
  node_back at (select f g) = λ i. expr at (select (form_back f i) (form_back g i))
  node_back at (split t f) = λ i. expr at (split t (form_back f i))
  node_back at (choice t f g) = λ i. expr at (choice t (form_back f i) (form_back g i))
  node_back at (find_in_map f g h) = λ i. expr at (find_in_map (form_back f i) (form_back g i) (form_back h i))
  node_back at (import_value f) = λ i. expr at (import_value (form_back f i))
  node_back at (base64 f) = λ i. expr at (base64 (form_back f i))

  forms_back : (fs : Forms) → forms_from (forms_data fs) ≡ fs
  forms_back no_forms = refl
  forms_back (form f fs) = λ i. form (form_back f i) (forms_back fs i)

  fields_back : (ps : Fields) → fields_from (fields_data ps) ≡ ps
  fields_back no_fields = refl
  fields_back (field t f ps) = λ i. field t (form_back f i) (fields_back ps i)

pub form-from-data : (f : Form) → form_from (form_data f) ≡ f
form-from-data = form_back

-- how an expression is kept
abbrev pub form_code : Coded Form
form_code = code_by Data data_code form_data form_from form-from-data
