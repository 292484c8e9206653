-- What a nested stack is given for its parameters: a text, a whole number or a truth value, or a list of such, joined with
-- commas (how far it may rest on what is not known yet, and the order of the faults, are this project's own).
use Rattle.std.specs.Prelude.{ℕ, List, [], ◌∷◌, Option, Some, None, Result, Ok, Err, option_map, map, codes, if◌then◌else◌}
use Rattle.std.specs.Option.{option_or, option_map_or}
use Rattle.cf_tree.specs.Datum.{Data, Items, Members, list, dict, no_items, item, no_members, member}
use Rattle.cf_tree.specs.Forms.{Form, Node, Fields, expr, choice, no_fields, field}
use Rattle.cf_tree.specs.Forms as node
use Rattle.cf_tree.specs.Keys.{value_at}
use Rattle.cf_tree.specs.declared.bound.Setting.{Setting}
use Rattle.cf_tree.specs.declared.bound.Setting.TheVariants as setting
use Rattle.cf_tree.specs.declared.template.Param.{Param}
use Rattle.cf_eval.specs.declared.fault.EvalWhy.TheVariants.{WrongKind}
use Rattle.cf_param.specs.Binding.{binding_of, bound_to}
use Rattle.cf_param.specs.declared.fault.BindFault.{BindFault}
use Rattle.cf_param.specs.declared.offered.Piece.{Piece}
use Rattle.cf_param.specs.declared.offered.Piece.TheVariants.{Text, Later}
use Rattle.cf_eval.specs.Functions.{joined_by}
use Rattle.cf_eval.specs.Outcome.{Outcome, Stop, got, later, bad, fault, on_got}
use Rattle.cf_eval.specs.Scope.{Scope}
use Rattle.cf_desired.specs.Stack.{Settings, stop_in}
use Rattle.cf_eval.specs.Texts.{Found, text_of}
use Rattle.cf_eval.specs.Value.{blamed, value_within}

-- a value as the text of a parameter
abbrev pub with_text : Option (List ℕ) → Option (List (List ℕ)) → Option (List (List ℕ))
with_text (Some t) (Some ts) = Some (t ∷ ts)
with_text _ _ = None

abbrev pub item_texts : Items → Option (List (List ℕ))
item_texts no_items = Some []
item_texts (item d ds) = with_text (text_of d) (item_texts ds)

abbrev pub piece_text : Data → Option (List ℕ)
piece_text (list ds) = option_map (joined_by (codes ",")) (item_texts ds)
piece_text d = text_of d

-- a member of `Parameters`: its name, what is blamed if its kind is wrong, and its value
pub record Offered : Type 0 where
  pub name : List ℕ
  pub at : List ℕ
  pub value : Found

-- all members, and why the map as a whole can't be, its size say
pub record Offers : Type 0 where
  pub members : List Offered
  pub whole : Option Stop

abbrev pub blamed_on : Option (List ℕ) → Form → List ℕ
blamed_on around (expr at n) = blamed around at n

abbrev pub offered_fields : Scope → Option (List ℕ) → Fields → List Offered
offered_fields s around no_fields = []
offered_fields s around (field k e fs) =
    record { name = k; at = blamed_on around e; value = value_within s around e } ∷ offered_fields s around fs

-- the members of a map that is a value, an attribute say: for each of them the map is to blame
abbrev pub offered_members : List ℕ → Members → List Offered
offered_members at no_members = []
offered_members at (member k d ms) = record { name = k; at = at; value = got (Some d) } ∷ offered_members at ms

abbrev pub map_wanted : List ℕ → Option Data → Outcome Offers
map_wanted at None = got (record { members = []; whole = None })
map_wanted at (Some (dict ms)) = got (record { members = offered_members at ms; whole = None })
map_wanted at (Some d) = bad (fault WrongKind at)

-- a value that is a map
abbrev pub value_offers : Scope → Option (List ℕ) → Form → Outcome Offers
value_offers s around (expr at n) = on_got (value_within s around (expr at n)) (map_wanted (blamed around at n))

-- `Parameters`: a map, the taken branch of an Fn::If, or a value that is a map
abbrev mutual
  pub offers_in : Scope → Option (List ℕ) → Form → Outcome Offers
  offers_in s around (expr at n) = node_offers s around at n

  pub node_offers : Scope → Option (List ℕ) → List ℕ → Node → Outcome Offers
  node_offers s around at (node.dict fs) =
      got (record { members = offered_fields s around fs; whole = stop_in (value_within s around (expr at (node.dict fs))) })
  node_offers s around at (choice name y n) =
      on_got (s.decided at name) (λ b. if b then offers_in s (Some at) y else offers_in s (Some at) n)
  node_offers s around at n = value_offers s around (expr at n)

abbrev pub offers_of : Scope → Option Form → Outcome Offers
offers_of s form = option_map_or (offers_in s None) form (got (record { members = []; whole = None }))

-- The first fault of a member in byte order; then a member of a wrong kind; then the map as a whole.
abbrev pub parts_stop : List Offered → Option Stop
parts_stop [] = None
parts_stop (o ∷ os) = option_or (stop_in o.value) (parts_stop os)

abbrev pub kind_stop : List ℕ → Found → Option Stop
kind_stop at (got (Some d)) = option_map_or (λ t. None) (piece_text d) (Some (fault WrongKind at))
kind_stop at _ = None

abbrev pub kinds_stop : List Offered → Option Stop
kinds_stop [] = None
kinds_stop (o ∷ os) = option_or (kind_stop o.at o.value) (kinds_stop os)

abbrev pub offers_stop : Outcome Offers → Option Stop
offers_stop (got o) = option_or (parts_stop o.members) (option_or (kinds_stop o.members) o.whole)
offers_stop later = None
offers_stop (bad s) = Some s

-- What is given: each member as a text, or not known yet, where it is so or at fault; and nothing is known of a map that is
-- not known yet or at fault.
pub data Given : Type 0 where
  pieces : List (List ℕ × Piece) → Given
  unknown : Given

abbrev pub with_piece : List ℕ → Found → List (List ℕ × Piece) → List (List ℕ × Piece)
with_piece name (got None) ps = ps
with_piece name (got (Some d)) ps = (name, option_map_or (λ t. Text t) (piece_text d) Later) ∷ ps
with_piece name later ps = (name, Later) ∷ ps
with_piece name (bad s) ps = (name, Later) ∷ ps

abbrev pub given_pieces : List Offered → List (List ℕ × Piece)
given_pieces [] = []
given_pieces (o ∷ os) = with_piece o.name o.value (given_pieces os)

abbrev pub given_by : Outcome Offers → Given
given_by (got o) = pieces (given_pieces o.members)
given_by _ = unknown

abbrev pub given_in : Scope → Option Form → Given
given_in s form = given_by (offers_of s form)

-- What each parameter is bound to; one at fault counts as not known yet.
abbrev pub or_unknown : Result Setting BindFault → Setting
or_unknown (Ok s) = s
or_unknown (Err f) = setting.Later

abbrev pub setting_given : Given → Param → Setting
setting_given (pieces ps) p = or_unknown (bound_to p (value_at p.name ps))
setting_given unknown p = setting.Later

abbrev pub settings_for : List Param → Given → Settings
settings_for params g = map (λ p. (p.name, setting_given g p)) params

-- why the parameters can't be bound
abbrev pub error_of : {A : Type 0} → Result A BindFault → Option BindFault
error_of (Ok a) = None
error_of (Err f) = Some f

abbrev pub bind_fault : List Param → Given → Option BindFault
bind_fault params (pieces ps) = error_of (binding_of params ps)
bind_fault params unknown = None
