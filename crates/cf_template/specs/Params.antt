-- The parameters of a template (template reference, Parameters). The forms of bounds are this project's own.
use Rattle.std.specs.Prelude.{ℕ, ℤ, List, [], ◌∷◌, ◌++◌, ◌&&◌, nat_le, codes, Bool, true, false, Option, Some, None, unwrap_or, option_and_then, Ok, Err, if◌then◌else◌}
use Rattle.std.specs.Str.{bytes_eq}
use Rattle.std.specs.Fmt.{signed_decimal}
use Rattle.serde_json.specs.Data.{Data, boolean, number, string, array, Members, no_members, member}
use Rattle.serde_json.specs.Find.{as_i64, as_u64}
use Rattle.cf_funcs.specs.Number.{digits_of, number_of}
use Rattle.cf_tree.specs.Lists.{is_among}
use Rattle.cf_tree.specs.declared.template.Param.{Param}
use Rattle.cf_tree.specs.declared.template.Kind.{Kind}
use Rattle.cf_tree.specs.declared.template.Kind.TheVariants as kind
use Rattle.cf_template.specs.declared.refusal.TemplateFault.TheVariants.{WrongShape, BadName, Unsupported}
use Rattle.cf_template.specs.declared.param.Words.{Words}
use Rattle.cf_template.specs.declared.param.Limits.{Limits}
use Rattle.cf_template.specs.Refusals.{Reading, after, mapped, provided}
use Rattle.cf_template.specs.Places.{member_place}
use Rattle.cf_template.specs.Words.{is_name}
use Rattle.cf_template.specs.Shapes.{has_only, has_member, optional, required, plain_text, items_from}

abbrev pub is_param_member : List ℕ → Bool
is_param_member k =
    is_among k (codes "AllowedPattern" ∷ codes "AllowedValues" ∷ codes "ConstraintDescription" ∷ codes "Default" ∷ codes "Description"
    ∷ codes "MaxLength" ∷ codes "MaxValue" ∷ codes "MinLength" ∷ codes "MinValue" ∷ codes "NoEcho" ∷ codes "Type" ∷ [])

-- the value that an option has
abbrev pub found_or : {A : Type 0} → List ℕ → Option A → Reading A
found_or at None = Err (WrongShape at)
found_or at (Some a) = Ok a

-- a text, a whole number or a truth value, as a text
abbrev pub scalar_of : Data → List ℕ → Reading (List ℕ)
scalar_of (string t) at = Ok t
scalar_of (boolean true) at = Ok (codes "true")
scalar_of (boolean false) at = Ok (codes "false")
scalar_of (number n) at = mapped signed_decimal (found_or at (as_i64 n))
scalar_of d at = Err (WrongShape at)

abbrev pub scalars_of : Data → List ℕ → Reading (List (List ℕ))
scalars_of (array ds) at = items_from scalar_of ds at 0 []
scalars_of d at = Err (WrongShape at)

-- a bound on lengths: 0 to 999,999,999, as a number or in 1 to 18 digits
abbrev pub length_bound : Option ℕ → Option ℕ
length_bound None = None
length_bound (Some n) = if nat_le n 999999999 then Some n else None

abbrev pub length_in : Data → Option ℕ
length_in (number n) = as_u64 n
length_in (string t) = digits_of 18 t
length_in d = None

abbrev pub length_of : Data → List ℕ → Reading ℕ
length_of d at = found_or at (length_bound (length_in d))

-- a bound on values: a number text, or a number whose decimal text is one; it counts in 10^-9
abbrev pub bound_of : Data → List ℕ → Reading ℤ
bound_of (number n) at = found_or at (option_and_then (λ z. number_of (signed_decimal z)) (as_i64 n))
bound_of (string t) at = found_or at (number_of t)
bound_of d at = Err (WrongShape at)

-- a truth value, also as a text
abbrev pub truth_form : Data → List ℕ → Reading Bool
truth_form (boolean b) at = Ok b
truth_form (string t) at =
    if bytes_eq t (codes "true") then Ok true else if bytes_eq t (codes "false") then Ok false else Err (WrongShape at)
truth_form d at = Err (WrongShape at)

abbrev pub kind_named : List ℕ → List ℕ → Reading Kind
kind_named t at =
    if bytes_eq t (codes "String") then Ok kind.Text
    else if bytes_eq t (codes "Number") then Ok kind.Number
    else if bytes_eq t (codes "List<Number>") then Ok kind.Numbers
    else if bytes_eq t (codes "CommaDelimitedList") then Ok kind.Commas
    else Err (Unsupported at t)

abbrev pub kind_form : Data → List ℕ → Reading Kind
kind_form (string t) at = kind_named t at
kind_form d at = Err (WrongShape at)

-- the members of a parameter, one after another in byte order: first those that are texts, then the others
abbrev pub words_of : Data → List ℕ → Reading Words
words_of d at =
    after (optional plain_text (codes "AllowedPattern") d at) (λ pattern.
    after (optional scalars_of (codes "AllowedValues") d at) (λ allowed.
    after (optional plain_text (codes "ConstraintDescription") d at) (λ constraint.
    after (optional scalar_of (codes "Default") d at) (λ default.
    mapped (λ description. record {
      pattern = pattern;
      allowed = allowed;
      constraint = constraint;
      default = default;
      description = description;
    }) (optional plain_text (codes "Description") d at)))))

abbrev pub limits_of : Data → List ℕ → Reading Limits
limits_of d at =
    after (optional length_of (codes "MaxLength") d at) (λ max_length.
    after (optional bound_of (codes "MaxValue") d at) (λ max_value.
    after (optional length_of (codes "MinLength") d at) (λ min_length.
    after (optional bound_of (codes "MinValue") d at) (λ min_value.
    after (optional truth_form (codes "NoEcho") d at) (λ no_echo.
    mapped (λ kind. record {
      max_length = max_length;
      max_value = max_value;
      min_length = min_length;
      min_value = min_value;
      no_echo = no_echo;
      kind = kind;
    }) (required kind_form (codes "Type") d at))))))

abbrev pub param_with : List ℕ → Words → Limits → Param
param_with name w l = record {
  name = name;
  kind = l.kind;
  default = w.default;
  allowed = w.allowed;
  pattern = w.pattern;
  min_length = l.min_length;
  max_length = l.max_length;
  min_value = l.min_value;
  max_value = l.max_value;
  no_echo = unwrap_or l.no_echo false;
  description = w.description;
  constraint = w.constraint;
}

abbrev pub param_fields : List ℕ → Data → List ℕ → Reading Param
param_fields name d at = after (words_of d at) (λ w. mapped (param_with name w) (limits_of d at))

-- a parameter: an object with known members and a type
abbrev pub param_of : List ℕ → Data → List ℕ → Reading Param
param_of name d at = provided (has_only is_param_member d && has_member (codes "Type") d) (WrongShape at) (param_fields name d at)

-- the members of the section behind those found before
abbrev pub params_in : Members → List ℕ → List Param → Reading (List Param)
params_in no_members at found = Ok found
params_in (member k d ms) at found =
    provided (is_name k) (BadName (member_place at k)) (after (param_of k d (member_place at k)) (λ p. params_in ms at (found ++ p ∷ [])))
