-- The values that the handler in memory notes of what is live, to find at once that a new resource is none of it (this project's own).
use Rattle.std.specs.Prelude.{ℕ, Bool, true, false, ◌||◌, List, [], ◌∷◌, Option, Some, None, is_some}
use Rattle.std.specs.List.{list_all}
use Rattle.std.specs.Option.{option_map_or}
use Rattle.cf_tree.specs.Datum.{Data, text}
use Rattle.cf_tree.specs.Keys.{put, value_at}
use Rattle.cf_tree.specs.declared.request.Request.{Request}
use Rattle.cf_tree.specs.declared.request.Request.TheVariants.{Create, Update, Delete}
use Rattle.cf_handler.specs.Lane.{Live}
use Rattle.cf_answers.specs.declared.noted.Noted.{Noted}

-- the text of a value, and of the first of some properties
abbrev pub text_of : Option Data → Option (List ℕ)
text_of (Some (text t)) = Some t
text_of _ = None

abbrev pub first_text : List (List ℕ) → List (List ℕ × Data) → Option (List ℕ)
first_text [] props = None
first_text (name ∷ names) props = text_of (value_at name props)

-- whether a text, or that there is none, is noted; where others are noted too, each text is, and that there is none
abbrev pub is_noted : Noted → Option (List ℕ) → Bool
is_noted n t = n.others || option_map_or (λ t. is_some (value_at t n.texts)) t false

abbrev pub are_noted : Noted → List (List ℕ) → List Live → Bool
are_noted n names live = list_all (λ r. is_noted n (first_text names r.props)) live

abbrev pub noting : Option (List ℕ) → Noted → Noted
noting None n = record n { others = true }
noting (Some t) n = record n { texts = put t true n.texts }

-- what a call may make live is noted
abbrev pub noting_of : List (List ℕ) → Request → Noted → Noted
noting_of names (Create kind props) n = noting (first_text names props) n
noting_of names (Update id props) n = noting (first_text names props) n
noting_of names (Delete id) n = n
