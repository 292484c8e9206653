-- What the parameters of a template are bound to, or the first refusal.
-- Template reference: Parameters; the order of the refusals, the number texts and the patterns are this project's own.
use Rattle.std.specs.Prelude.{ℕ, ℤ, List, [], ◌∷◌, ◌++◌, length, map, find, chars, Bool, true, false, not, ◌&&◌, nat_lt, int_lt, is_none, if◌then◌else◌, Option, Some, None, Result, Ok, Err}
use Rattle.std.specs.List.{list_any}
use Rattle.std.specs.Option.{option_map_or}
use Rattle.std.specs.Str.{bytes_eq}
use Rattle.cf_tree.specs.Datum as tree
use Rattle.cf_tree.specs.Keys.{put, value_at}
use Rattle.cf_tree.specs.Named.{found}
use Rattle.cf_tree.specs.declared.bound.Setting.{Setting}
use Rattle.cf_tree.specs.declared.bound.Setting.TheVariants as setting
use Rattle.cf_tree.specs.declared.value.Val.{Val}
use Rattle.cf_tree.specs.declared.value.Val.TheVariants as val
use Rattle.cf_tree.specs.declared.template.Param.{Param}
use Rattle.cf_tree.specs.declared.template.Kind.{Kind}
use Rattle.cf_tree.specs.declared.template.Kind.TheVariants.{Text, Number, Numbers, Commas}
use Rattle.cf_funcs.specs.Number.{number_of}
use Rattle.cf_funcs.specs.Pieces.{members_of}
use Rattle.cf_param.specs.declared.constraints.Breach.{Breach}
use Rattle.cf_param.specs.declared.constraints.Breach.TheVariants as breach
use Rattle.cf_param.specs.declared.fault.BindFault.{BindFault}
use Rattle.cf_param.specs.declared.fault.BindFault.TheVariants as fault
use Rattle.cf_param.specs.declared.offered.Piece.{Piece}
use Rattle.cf_param.specs.declared.offered.Piece.TheVariants as piece
use Rattle.cf_param.specs.Pattern.{is_usable, any_unmatched}

-- the texts that the constraints of a parameter look at: its text, or the members of its list
abbrev pub constrained_texts : Kind → List ℕ → List (List ℕ)
constrained_texts Text t = t ∷ []
constrained_texts Number t = t ∷ []
constrained_texts Numbers t = members_of t
constrained_texts Commas t = members_of t

-- the kinds of parameters that each constraint is for
abbrev pub is_numeric : Kind → Bool
is_numeric Number = true
is_numeric Numbers = true
is_numeric k = false

abbrev pub has_length : Kind → Bool
has_length Text = true
has_length k = false

abbrev pub has_size : Kind → Bool
has_size Number = true
has_size k = false

abbrev pub has_pattern : Kind → Bool
has_pattern Text = true
has_pattern Commas = true
has_pattern k = false

-- a bound that is there is passed, in characters and in 10^-9
abbrev pub is_shorter : Option ℕ → List ℕ → Bool
is_shorter least t = option_map_or (λ n. nat_lt (length (chars t)) n) least false

abbrev pub is_longer : Option ℕ → List ℕ → Bool
is_longer most t = option_map_or (λ n. nat_lt n (length (chars t))) most false

abbrev pub is_below : Option ℤ → List ℕ → Bool
is_below least t = option_map_or (λ n. option_map_or (λ x. int_lt x n) (number_of t) false) least false

abbrev pub is_larger : Option ℤ → List ℕ → Bool
is_larger most t = option_map_or (λ n. option_map_or (λ x. int_lt n x) (number_of t) false) most false

-- a text is not among the allowed ones
abbrev pub is_foreign : Option (List (List ℕ)) → List ℕ → Bool
is_foreign allowed t = option_map_or (λ names. not (list_any (λ name. bytes_eq name t) names)) allowed false

abbrev pub is_unusable : Option (List ℕ) → Bool
is_unusable pattern = option_map_or (λ q. not (is_usable q)) pattern false

abbrev pub is_unmatched : Option (List ℕ) → List (List ℕ) → Bool
is_unmatched pattern ts = option_map_or (λ q. any_unmatched q ts) pattern false

-- the texts of a parameter break a constraint
abbrev pub breaks : Param → List (List ℕ) → Breach → Bool
breaks p ts breach.NotANumber = is_numeric p.kind && list_any (λ t. is_none (number_of t)) ts
breaks p ts breach.TooShort = has_length p.kind && list_any (is_shorter p.min_length) ts
breaks p ts breach.TooLong = has_length p.kind && list_any (is_longer p.max_length) ts
breaks p ts breach.TooSmall = has_size p.kind && list_any (is_below p.min_value) ts
breaks p ts breach.TooLarge = has_size p.kind && list_any (is_larger p.max_value) ts
breaks p ts breach.NotAllowed = list_any (is_foreign p.allowed) ts
breaks p ts breach.BadPattern = has_pattern p.kind && is_unusable p.pattern
breaks p ts breach.NoMatch = has_pattern p.kind && is_unmatched p.pattern ts

-- the constraints in the order in which they are looked at: those on the pattern come last
abbrev pub plain_constraints : List Breach
plain_constraints = breach.NotANumber ∷ breach.TooShort ∷ breach.TooLong ∷ breach.TooSmall ∷ breach.TooLarge ∷ breach.NotAllowed ∷ []

abbrev pub pattern_constraints : List Breach
pattern_constraints = breach.BadPattern ∷ breach.NoMatch ∷ []

-- the first that is broken
abbrev pub plain_breach_of : Param → List (List ℕ) → Option Breach
plain_breach_of p ts = find (breaks p ts) plain_constraints

abbrev pub breach_of : Param → List (List ℕ) → Option Breach
breach_of p ts = find (breaks p ts) (plain_constraints ++ pattern_constraints)

-- how a breach is told
abbrev pub breach_fault : List ℕ → Breach → BindFault
breach_fault name breach.NotANumber = fault.NotANumber name
breach_fault name breach.TooShort = fault.TooShort name
breach_fault name breach.TooLong = fault.TooLong name
breach_fault name breach.TooSmall = fault.TooSmall name
breach_fault name breach.TooLarge = fault.TooLarge name
breach_fault name breach.NotAllowed = fault.NotAllowed name
breach_fault name breach.BadPattern = fault.BadPattern name
breach_fault name breach.NoMatch = fault.NoMatch name

-- the value of a parameter: its text, or the list of the members
abbrev pub setting_value : Kind → List ℕ → Val
setting_value Text t = val.Text t
setting_value Number t = val.Text t
setting_value Numbers t = val.List (map tree.text (members_of t))
setting_value Commas t = val.List (map tree.text (members_of t))

-- what a text binds a parameter to
abbrev pub setting_from : Param → List ℕ → Result Setting BindFault
setting_from p t =
    option_map_or (λ b. Err (breach_fault p.name b)) (breach_of p (constrained_texts p.kind t))
    (Ok (setting.Value (setting_value p.kind t)))

-- what stands in where nothing is given
abbrev pub default_of : Param → Option (List ℕ) → Result Setting BindFault
default_of p None = Err (fault.Missing p.name)
default_of p (Some t) = setting_from p t

-- what is given, or else the default; what is not known yet breaks no constraint
abbrev pub bound_to : Param → Option Piece → Result Setting BindFault
bound_to p None = default_of p p.default
bound_to p (Some piece.Later) = Ok setting.Later
bound_to p (Some (piece.Text t)) = setting_from p t

-- what follows from a value; a fault stays
abbrev pub and_then : {A B : Type 0} → Result A BindFault → (A → Result B BindFault) → Result B BindFault
and_then (Ok a) f = f a
and_then (Err e) f = Err e

-- the parameters in their order, put among those that are bound
abbrev pub settings_of : List Param → List (List ℕ × Piece) → List (List ℕ × Setting) → Result (List (List ℕ × Setting)) BindFault
settings_of [] given bound = Ok bound
settings_of (p ∷ ps) given bound = and_then (bound_to p (value_at p.name given)) (λ s. settings_of ps given (put p.name s bound))

-- the first name that is given and not declared
abbrev pub undeclared : List Param → List (List ℕ × Piece) → Option (List ℕ)
undeclared ps [] = None
undeclared ps (g ∷ given) = if is_none (found (λ p. p.name) g.0 ps) then Some g.0 else undeclared ps given

-- what parameters are bound to, by name, or the first refusal
abbrev pub binding_of : List Param → List (List ℕ × Piece) → Result (List (List ℕ × Setting)) BindFault
binding_of ps given = option_map_or (λ name. Err (fault.Undeclared name)) (undeclared ps given) (settings_of ps given [])
