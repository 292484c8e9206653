-- The functions of templates by name (template reference: intrinsic functions, condition functions). Which of them aren't taken is this
-- project's own.
use Rattle.std.specs.Prelude.{ℕ, List, [], ◌∷◌, codes, Bool, false, ◌||◌, nat_eq, if◌then◌else◌}
use Rattle.std.specs.Str.{bytes_eq}
use Rattle.std.specs.List.{starts_with, list_any}
use Rattle.serde_json.specs.Data.{Members, no_members, member}
use Rattle.cf_tree.specs.Lists.{is_among}
use Rattle.cf_tree.specs.declared.template.Param.{Param}
use Rattle.cf_template.specs.declared.refusal.TemplateFault.{TemplateFault}
use Rattle.cf_template.specs.declared.refusal.TemplateFault.TheVariants.{WrongShape, UnknownFunction}
use Rattle.cf_template.specs.declared.refusal.TemplateFault.TheVariants as fault
use Rattle.cf_template.specs.declared.function.Function.{Function}
use Rattle.cf_template.specs.declared.function.Function.TheVariants.{Ref, GetAtt, Sub, Join, Split, Select, FindInMap, If, ImportValue, Base64, Equals, Not, And, Or, Unsupported, Unknown}
use Rattle.cf_template.specs.Words.{is_function}

-- what CloudFormation knows and isn't taken
abbrev pub is_unsupported : List ℕ → Bool
is_unsupported k =
    is_among k (codes "Fn::Transform" ∷ codes "Fn::GetAZs" ∷ codes "Fn::Cidr" ∷ codes "Fn::Length" ∷ codes "Fn::ToJsonString" ∷ [])
    || starts_with nat_eq k (codes "Fn::ForEach")

abbrev pub function_named : List ℕ → Function
function_named k =
    if bytes_eq k (codes "Ref") then Ref
    else if bytes_eq k (codes "Fn::GetAtt") then GetAtt
    else if bytes_eq k (codes "Fn::Sub") then Sub
    else if bytes_eq k (codes "Fn::Join") then Join
    else if bytes_eq k (codes "Fn::Split") then Split
    else if bytes_eq k (codes "Fn::Select") then Select
    else if bytes_eq k (codes "Fn::FindInMap") then FindInMap
    else if bytes_eq k (codes "Fn::If") then If
    else if bytes_eq k (codes "Fn::ImportValue") then ImportValue
    else if bytes_eq k (codes "Fn::Base64") then Base64
    else if bytes_eq k (codes "Fn::Equals") then Equals
    else if bytes_eq k (codes "Fn::Not") then Not
    else if bytes_eq k (codes "Fn::And") then And
    else if bytes_eq k (codes "Fn::Or") then Or
    else if is_unsupported k then Unsupported
    else Unknown

-- whether an object is a function: it has a member named `Ref` or with a name that begins with `Fn::`
abbrev pub has_function : Members → Bool
has_function no_members = false
has_function (member k d ms) = is_function k || has_function ms

-- the function that an object is; a function object has one member
abbrev pub function_in : Members → Function
function_in (member k d no_members) = function_named k
function_in ms = Unknown

-- why the function of a name may not stand somewhere: its own name first
abbrev pub stray : Function → List ℕ → List ℕ → TemplateFault
stray Unsupported k at = fault.Unsupported at k
stray Unknown k at = UnknownFunction at
stray f k at = WrongShape at

-- why a function object may not stand somewhere: that it has more than one member comes first
abbrev pub stray_object : Members → List ℕ → TemplateFault
stray_object (member k d no_members) at = stray (function_named k) k at
stray_object ms at = WrongShape at

-- the pseudo parameters that have a value (template reference, pseudo parameters)
abbrev pub is_pseudo : List ℕ → Bool
is_pseudo k =
    is_among k (codes "AWS::AccountId" ∷ codes "AWS::NotificationARNs" ∷ codes "AWS::Partition" ∷ codes "AWS::Region" ∷ codes "AWS::URLSuffix"
    ∷ codes "AWS::StackName" ∷ codes "AWS::StackId" ∷ [])

-- whether a template declares a parameter
abbrev pub is_declared : List Param → List ℕ → Bool
is_declared ps k = list_any (λ p. bytes_eq k p.name) ps
