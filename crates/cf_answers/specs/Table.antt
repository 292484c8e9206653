-- What the handler in memory answers: a table over the request and what is live (the handler contract of the CloudFormation registry:
-- create, update and delete handlers and their error codes; which resources are the same, `sealed`, and the attributes are this project's
-- own).
use Rattle.std.specs.Prelude.{ℕ, pos, Bool, true, false, ◌&&◌, ◌||◌, not, List, [], ◌∷◌, ◌++◌, length, Option, Some, None, is_some, find, if◌then◌else◌, nat_le, codes}
use Rattle.std.specs.Fmt.{decimal}
use Rattle.std.specs.Str.{bytes_eq}
use Rattle.std.specs.List.{list_all, list_any}
use Rattle.cf_tree.specs.Datum.{Data, text, whole}
use Rattle.cf_tree.specs.Keys.{put, value_at}
use Rattle.cf_tree.specs.Lists.{is_among}
use Rattle.cf_tree.specs.Same.{same_data}
use Rattle.cf_tree.specs.SizeOf.{size_of_dict}
use Rattle.cf_tree.specs.declared.request.Request.{Request}
use Rattle.cf_tree.specs.declared.request.Request.TheVariants.{Create, Update, Delete}
use Rattle.cf_tree.specs.declared.request.Look.{Look}
use Rattle.cf_tree.specs.declared.request.Look.TheVariants as look
use Rattle.cf_tree.specs.declared.code.Code.TheVariants.{NotFound, InvalidRequest, AlreadyExists, NotUpdatable}
use Rattle.cf_schema.specs.declared.described.Schema.{Schema}
use Rattle.cf_schema.specs.Change.{differs_at, any_differs}
use Rattle.cf_handler.specs.Lane.{Live}
use Rattle.cf_handler.specs.declared.settled.Settlement.{Settlement}
use Rattle.cf_handler.specs.declared.settled.Settlement.TheVariants.{Success, Failed}

-- the id of what a token creates: the lane's name, a colon and the token
abbrev pub id_of : List ℕ → ℕ → List ℕ
id_of name token = name ++ 58 ∷ decimal token

-- Properties are valid where each is one of the schema's that may be set, and a text, all required ones are there, and they encode to
-- 262,144 bytes at most.
abbrev pub is_text : Data → Bool
is_text (text t) = true
is_text _ = false

abbrev pub is_settable : Schema → List ℕ × Data → Bool
is_settable g p = is_among p.0 g.props && (not (is_among p.0 g.read_only) && is_text p.1)

abbrev pub is_there : List (List ℕ × Data) → List ℕ → Bool
is_there props name = is_some (value_at name props)

abbrev pub are_valid : Schema → List (List ℕ × Data) → Bool
are_valid g props = list_all (is_settable g) props && (list_all (is_there props) g.required && nat_le (size_of_dict props) 262144)

-- Two resources are the same one where the create-only and the conditional properties that both have are equal.
abbrev pub agree : Option Data → Option Data → Bool
agree (Some a) (Some b) = same_data a b
agree _ _ = true

abbrev pub agree_at : List (List ℕ × Data) → List (List ℕ × Data) → List ℕ → Bool
agree_at old new name = agree (value_at name old) (value_at name new)

abbrev pub are_same : Schema → List (List ℕ × Data) → List (List ℕ × Data) → Bool
are_same g old new = list_all (agree_at old new) g.create_only && list_all (agree_at old new) g.conditional

abbrev pub is_taken : Schema → List (List ℕ × Data) → List Live → Bool
is_taken g props live = list_any (λ r. are_same g r.props props) live

-- A conditional property may change unless its old value is the text `sealed`.
abbrev pub is_sealed : Option Data → Bool
is_sealed (Some (text t)) = bytes_eq (codes "sealed") t
is_sealed _ = false

abbrev pub breaks_seal : List (List ℕ × Data) → List (List ℕ × Data) → List ℕ → Bool
breaks_seal old new name = is_sealed (value_at name old) && differs_at name old new

abbrev pub is_fixed : Schema → List (List ℕ × Data) → List (List ℕ × Data) → Bool
is_fixed g old new = any_differs g.create_only old new || list_any (breaks_seal old new) g.conditional

-- Attributes: all properties, the id, and the bytes of Content, or else of Value.
abbrev pub text_in : Option Data → List ℕ
text_in (Some (text t)) = t
text_in _ = []

abbrev pub measured : List (List ℕ × Data) → List ℕ
measured props =
    if is_there props (codes "Content") then text_in (value_at (codes "Content") props) else text_in (value_at (codes "Value") props)

abbrev pub attrs_of : List ℕ → List (List ℕ × Data) → List (List ℕ × Data)
attrs_of id props = put (codes "Length") (whole (pos (length (measured props)))) (put (codes "Id") (text id) props)

-- The table.
abbrev pub create_answer : Schema → List ℕ → ℕ → List (List ℕ × Data) → List Live → Settlement
create_answer g name token props live =
    if are_valid g props then if is_taken g props live then Failed AlreadyExists else Success (id_of name token)
    (attrs_of (id_of name token) props)
    else Failed InvalidRequest

abbrev pub update_answer : Schema → List ℕ → List (List ℕ × Data) → Option Live → Settlement
update_answer g id props None = Failed NotFound
update_answer g id props (Some r) =
    if are_valid g props then if is_fixed g r.props props then Failed NotUpdatable else Success id (attrs_of id props)
    else Failed InvalidRequest

abbrev pub delete_answer : List ℕ → Option Live → Settlement
delete_answer id None = Failed NotFound
delete_answer id (Some r) = Success id []

abbrev pub is_of_id : List ℕ → Live → Bool
is_of_id id r = bytes_eq id r.id

abbrev pub answer_to : Schema → List ℕ → ℕ → List Live → Request → Settlement
answer_to g name token live (Create kind props) = create_answer g name token props live
answer_to g name token live (Update id props) = update_answer g id props (find (is_of_id id) live)
answer_to g name token live (Delete id) = delete_answer id (find (is_of_id id) live)

-- a look shows what is live
abbrev pub look_at : Option Live → Look
look_at (Some r) = look.Found r.props r.attrs
look_at None = look.Failed NotFound

-- what a settled call makes has an id that no live resource has
abbrev pub is_apart : Request → Settlement → List Live → Bool
is_apart (Create kind props) (Success id attrs) live = not (is_some (find (is_of_id id) live))
is_apart _ _ live = true
