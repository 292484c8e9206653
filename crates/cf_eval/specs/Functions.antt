-- The intrinsic functions of the template reference, each as what it makes of its evaluated parts. `at` is the place of the function.
use Rattle.std.specs.Prelude.{ℕ, ℤ, pos, negsuc, Bool, List, [], ◌∷◌, ◌++◌, Option, Some, None, if◌then◌else◌, codes, map, unwrap_or, option_map, slice_get}
use Rattle.std.specs.List.{concat}
use Rattle.std.specs.Str.{bytes_eq}
use Rattle.base64.specs.Engines.{standard}
use Rattle.base64.specs.GeneralPurpose.{encode_of}
use Rattle.cf_funcs.specs.Pieces.{cut_at, pieces_of}
use Rattle.cf_tree.specs.Datum.{Data, text, list, items_of}
use Rattle.cf_tree.specs.Keys.{value_at}
use Rattle.cf_tree.specs.declared.parts.Part.{Part}
use Rattle.cf_tree.specs.declared.parts.Part.TheVariants.{Plain, Name}
use Rattle.cf_eval.specs.Outcome.{Outcome, got, later, bad, fault, below, on_got, both, each}
use Rattle.cf_eval.specs.Scope.{Scope, Beyond, open_to, closed_to}
use Rattle.cf_eval.specs.Texts.{Found, known, wanted_text, as_text, wanted_list, as_list, wanted_index}
use Rattle.cf_eval.specs.declared.env.Sight.{Sight}
use Rattle.cf_eval.specs.declared.env.Sight.TheVariants as sight
use Rattle.cf_eval.specs.declared.env.OutputSight.{OutputSight}
use Rattle.cf_eval.specs.declared.env.OutputSight.TheVariants as output
use Rattle.cf_eval.specs.declared.fault.EvalWhy.{EvalWhy}
use Rattle.cf_eval.specs.declared.fault.EvalWhy.TheVariants.{UnknownName, UnknownAttribute, UnknownMapKey, IndexOutside, WrongKind, UnknownImport, NotMade}

-- a fault for want of an entry
abbrev pub or_fault : {A : Type 0} → EvalWhy → List ℕ → Option A → Outcome A
or_fault why at (Some a) = got a
or_fault why at None = bad (fault why at)

-- a value that may not be known yet
abbrev pub or_later : {A : Type 0} → Option A → Outcome A
or_later (Some a) = got a
or_later None = later

-- a text as a value
abbrev pub text_value : List ℕ → Found
text_value t = known (text t)

-- `Ref` of a resource: its physical id, or the stack id of a nested stack
abbrev pub id_of : List ℕ → Sight → Found
id_of at sight.NotMade = bad (fault NotMade at)
id_of at (sight.Made physical attrs) = on_got (or_later physical) text_value
id_of at (sight.Nested id outputs) = text_value id

-- no resource may be referred to in a condition: WrongKind at one of these, UnknownName at another name
abbrev pub why_not : List ℕ → List (List ℕ) → EvalWhy
why_not name [] = UnknownName
why_not name (n ∷ ns) = if bytes_eq n name then WrongKind else why_not name ns

abbrev pub resource_ref : Beyond → List ℕ → List ℕ → Found
resource_ref (open_to seen imports) at name = on_got (or_fault UnknownName at (value_at name seen)) (id_of at)
resource_ref (closed_to names) at name = bad (fault (why_not name names) at)

-- `Ref` beside the parameters: a pseudo parameter, else a resource
abbrev pub pseudo_ref : Scope → List ℕ → List ℕ → Found
pseudo_ref s at name =
    if bytes_eq (codes "AWS::NoValue") name then got None
    else unwrap_or (option_map known (value_at name s.pseudo)) (resource_ref s.beyond at name)

-- `Ref`: a parameter, else a pseudo parameter, else a resource
abbrev pub setting_found : Option Data → Found
setting_found value = on_got (or_later value) known

abbrev pub ref_found : Scope → List ℕ → List ℕ → Found
ref_found s at name = unwrap_or (option_map setting_found (s.params name)) (pseudo_ref s at name)

-- an output of a nested stack
abbrev pub output_found : List ℕ → OutputSight → Found
output_found at output.NotMade = bad (fault NotMade at)
output_found at (output.Made value) = on_got (or_later value) text_value
output_found at (output.Broken why stack place) = bad (below why stack place)

-- an attribute of a resource
abbrev pub attribute_found : List ℕ → Sight → List ℕ → Found
attribute_found at sight.NotMade name = bad (fault NotMade at)
attribute_found at (sight.Made physical attrs) name =
    on_got (or_later attrs) (λ all. on_got (or_fault UnknownAttribute at (value_at name all)) known)
attribute_found at (sight.Nested id outputs) name = on_got (or_fault UnknownAttribute at (value_at name outputs)) (output_found at)

-- where there is such a resource; none may be referred to in a condition
abbrev pub attribute_in : Beyond → List ℕ → List ℕ → List ℕ → Found
attribute_in (open_to seen imports) at id name = on_got (or_fault UnknownName at (value_at id seen)) (λ s. attribute_found at s name)
attribute_in (closed_to names) at id name = bad (fault WrongKind at)

-- `Fn::GetAtt`: the attribute of a resource
abbrev pub get_att_found : Scope → List ℕ → List ℕ → Found → Found
get_att_found s at id name = on_got (as_text at name) (attribute_in s.beyond at id)

-- `${Name}` in a text is as `Ref`, and `${Id.Attribute}`, cut at the first dot, as `Fn::GetAtt`
abbrev pub cut_found : Scope → List ℕ → List ℕ → Option (List ℕ × List ℕ) → Found
cut_found s at name None = ref_found s at name
cut_found s at name (Some c) = attribute_in s.beyond at c.0 c.1

abbrev pub name_found : Scope → List ℕ → List ℕ → Found
name_found s at name = cut_found s at name (cut_at (codes ".") name)

-- a piece of a text: what stands there, a name of the function's own map, or another name
abbrev pub piece_found : Scope → List ℕ → List (List ℕ × Found) → Part → Found
piece_found s at own (Plain t) = text_value t
piece_found s at own (Name name) = unwrap_or (value_at name own) (name_found s at name)

-- pieces put together
abbrev pub put_together : List ℕ → List (Option Data) → Found
put_together at pieces = on_got (each (map (wanted_text at) pieces)) (λ ts. text_value (concat ts))

-- the outcomes of an object's members
abbrev pub outcomes : List (List ℕ × Found) → List Found
outcomes members = map (λ m. m.1) members

-- `Fn::Sub`: the map's members, then the text's names
abbrev pub sub_found : Scope → List ℕ → List (List ℕ × Found) → List Part → Found
sub_found s at own parts = both (each (outcomes own)) (each (map (piece_found s at own) parts)) (λ _ pieces. put_together at pieces)

-- texts behind a delimiter, one after another
abbrev pub led_by : List ℕ → List (List ℕ) → List ℕ
led_by d [] = []
led_by d (t ∷ ts) = d ++ (t ++ led_by d ts)

-- texts with a delimiter between any two
abbrev pub joined_by : List ℕ → List (List ℕ) → List ℕ
joined_by d [] = []
joined_by d (t ∷ ts) = t ++ led_by d ts

-- `Fn::Join`: the members of a list as texts, with the delimiter between any two
abbrev pub join_found : List ℕ → List ℕ → Found → Found
join_found at d members =
    on_got (as_list at members) (λ ds. on_got (each (map (λ m. wanted_text at (Some m)) ds)) (λ ts. text_value (joined_by d ts)))

-- `Fn::Split`: the pieces of a text, cut at each place of the delimiter; the reader of templates refuses an empty one
abbrev pub split_at : List ℕ → List ℕ → List ℕ → Found
split_at at [] t = bad (fault WrongKind at)
split_at at (b ∷ bs) t = known (list (items_of (map text (pieces_of (b ∷ bs) t))))

abbrev pub split_found : List ℕ → List ℕ → Found → Found
split_found at d x = on_got (as_text at x) (split_at at d)

-- the member at an index, counted from 0
abbrev pub nth : List ℕ → List Data → ℤ → Found
nth at ds (pos n) = on_got (or_fault IndexOutside at (slice_get ds n)) known
nth at ds (negsuc n) = bad (fault IndexOutside at)

-- `Fn::Select`: a member of a list by its index
abbrev pub select_found : List ℕ → Found → Found → Found
select_found at index members =
    both index members (λ i l. on_got (wanted_index at i) (λ n. on_got (wanted_list at l) (λ ds. nth at ds n)))

-- `Fn::FindInMap`: the value of a mapping under two keys
abbrev pub under_second : List ℕ → List ℕ → List (List ℕ × Data) → Found
under_second at second values = on_got (or_fault UnknownMapKey at (value_at second values)) known

abbrev pub under_key : List ℕ → List ℕ → List ℕ → List (List ℕ × List (List ℕ × Data)) → Found
under_key at first second keys = on_got (or_fault UnknownMapKey at (value_at first keys)) (under_second at second)

abbrev pub value_in_mapping : Scope → List ℕ → List ℕ → List ℕ → List ℕ → Found
value_in_mapping s at name first second = on_got (or_fault UnknownName at (s.mapping name)) (under_key at first second)

abbrev pub paired : Option Data → Option Data → Outcome (Option Data × Option Data)
paired a b = got (a, b)

abbrev pub find_found : Scope → List ℕ → Found → Found → Found → Found
find_found s at name first second =
    both (both name first paired) second (λ p l.
    on_got (wanted_text at p.0) (λ name.
    on_got (wanted_text at p.1) (λ first.
    on_got (wanted_text at l) (λ second. value_in_mapping s at name first second))))

-- `Fn::If`: the taken branch alone
abbrev pub if_found : Outcome Bool → Found → Found → Found
if_found holds first second = on_got holds (λ b. if b then first else second)

-- `Fn::ImportValue`: the value of an export of another stack; its name may not be Later, and none stands in a condition
abbrev pub imported : Beyond → List ℕ → List ℕ → Found
imported (open_to seen imports) at name = on_got (or_fault UnknownImport at (value_at name imports)) text_value
imported (closed_to names) at name = bad (fault WrongKind at)

abbrev pub import_found : Scope → List ℕ → Found → Found
import_found s at (got name) = on_got (wanted_text at name) (imported s.beyond at)
import_found s at later = bad (fault WrongKind at)
import_found s at (bad w) = bad w

-- `Fn::Base64`: the bytes of a text in base64
abbrev pub base64_found : List ℕ → Found → Found
base64_found at x = on_got (as_text at x) (λ t. text_value (encode_of standard t))
