-- Which names a file may have, what a request for another one is answered, and what a request is about (this project's own).
use Rattle.std.specs.Prelude.{ℕ, Bool, true, false, ◌&&◌, ◌||◌, ◌==◌, not, List, [], ◌∷◌, length, nat_le, find, Option, Some, None, codes, if◌then◌else◌}
use Rattle.std.specs.List.{list_all}
use Rattle.cf_tree.specs.Datum.{Data, text}
use Rattle.cf_tree.specs.Keys.{value_at}
use Rattle.cf_tree.specs.declared.request.Request.{Request}
use Rattle.cf_tree.specs.declared.request.Request.TheVariants.{Create, Update, Delete}
use Rattle.cf_tree.specs.declared.code.Code.TheVariants.{NotFound, InvalidRequest}
use Rattle.cf_schema.specs.declared.described.Schema.{Schema}
use Rattle.cf_handler.specs.Lane.{Live}
use Rattle.cf_handler.specs.Name.{is_name_byte}
use Rattle.cf_handler.specs.declared.settled.Settlement.{Settlement}
use Rattle.cf_handler.specs.declared.settled.Settlement.TheVariants.{Failed}
use Rattle.cf_answers.specs.Table.{answer_to, is_of_id, text_in}

-- A path is 1 to 128 letters, digits, hyphens, underscores and dots, and its first byte is no dot.
abbrev pub is_path_byte : ℕ → Bool
is_path_byte b = is_name_byte b || (b == 95 || b == 46)

abbrev pub begins_with_dot : List ℕ → Bool
begins_with_dot [] = false
begins_with_dot (b ∷ bytes) = b == 46

abbrev pub is_path : List ℕ → Bool
is_path path = nat_le 1 (length path) && (nat_le (length path) 128 && (list_all is_path_byte path && not (begins_with_dot path)))

-- properties whose path is a text have one that a file may have
abbrev pub may_name : Option Data → Bool
may_name (Some (text path)) = is_path path
may_name _ = true

abbrev pub names_well : List (List ℕ × Data) → Bool
names_well props = may_name (value_at (codes "Path") props)

-- what is answered where they don't: an id that is not live comes first
abbrev pub misnamed : Option Live → Settlement
misnamed None = Failed NotFound
misnamed (Some r) = Failed InvalidRequest

abbrev pub file_answer : Schema → List ℕ → ℕ → List Live → Request → Settlement
file_answer g name token live (Create kind props) =
    if names_well props then answer_to g name token live (Create kind props) else Failed InvalidRequest
file_answer g name token live (Update id props) =
    if names_well props then answer_to g name token live (Update id props) else misnamed (find (is_of_id id) live)
file_answer g name token live (Delete id) = answer_to g name token live (Delete id)

-- The text of a property, and no byte where it is no text.
abbrev pub text_at : List ℕ → List (List ℕ × Data) → List ℕ
text_at name props = text_in (value_at name props)

-- the path of a live resource
abbrev pub path_at : Option Live → List ℕ
path_at (Some r) = text_at (codes "Path") r.props
path_at None = []

-- The path of the file that a request is about: an update and a deletion leave the resource where it is.
abbrev pub path_of : List Live → Request → List ℕ
path_of live (Create kind props) = text_at (codes "Path") props
path_of live (Update id props) = path_at (find (is_of_id id) live)
path_of live (Delete id) = path_at (find (is_of_id id) live)

-- what the file is to hold then, where it is not to go
abbrev pub content_of : Request → Option (List ℕ)
content_of (Create kind props) = Some (text_at (codes "Content") props)
content_of (Update id props) = Some (text_at (codes "Content") props)
content_of (Delete id) = None
