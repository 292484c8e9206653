-- The numbers of what entries tell by one byte (this project's own).
use Rattle.std.specs.Prelude.{ℕ, ◌==◌, if◌then◌else◌, Bool, true, false, List, [], ◌∷◌, length, Option, Some, None, find, option_map}
use Rattle.cf_tree.specs.Codes.{number_of, code_of}
use Rattle.cf_tree.specs.declared.row.Action.{Action}
use Rattle.cf_tree.specs.declared.row.Action.TheVariants as action
use Rattle.cf_tree.specs.declared.row.Replacement.{Replacement}
use Rattle.cf_tree.specs.declared.row.Replacement.TheVariants as replacement
use Rattle.cf_tree.specs.declared.row.Attribute.{Attribute}
use Rattle.cf_tree.specs.declared.row.Attribute.TheVariants as attribute
use Rattle.cf_tree.specs.declared.row.Recreation.{Recreation}
use Rattle.cf_tree.specs.declared.row.Recreation.TheVariants as recreation
use Rattle.cf_tree.specs.declared.row.Evaluation.{Evaluation}
use Rattle.cf_tree.specs.declared.row.Evaluation.TheVariants as evaluation
use Rattle.cf_entry.specs.declared.turn.Cause.{Cause}
use Rattle.cf_entry.specs.declared.turn.Phase.{Phase}
use Rattle.cf_entry.specs.declared.turn.Phase.TheVariants as phase
use Rattle.cf_entry.specs.declared.turn.Reason.{Reason}
use Rattle.cf_entry.specs.declared.turn.Reason.TheVariants as reason
use Rattle.cf_entry.specs.declared.turn.Why.{Why}
use Rattle.cf_entry.specs.declared.turn.Why.TheVariants as why

-- the one of a list that has a number, if there is one
abbrev pub one_numbered : {X : Type 0} → (X → ℕ) → List X → ℕ → Option X
one_numbered number all n = find (λ x. number x == n) all

-- why a resource became a leftover
abbrev pub why_number : Why → ℕ
why_number why.Retained = 1
why_number why.Failed = 2
why_number why.Doubt = 3

abbrev pub why_of : ℕ → Option Why
why_of = one_numbered why_number (why.Retained ∷ why.Failed ∷ why.Doubt ∷ [])

-- a phase
abbrev pub phase_number : Phase → ℕ
phase_number phase.Clean = 2
phase_number phase.Back = 3
phase_number phase.BackClean = 4

abbrev pub phase_of : ℕ → Option Phase
phase_of = one_numbered phase_number (phase.Clean ∷ phase.Back ∷ phase.BackClean ∷ [])

-- what a change set does with a resource
abbrev pub action_number : Action → ℕ
action_number action.Add = 1
action_number action.Modify = 2
action_number action.Remove = 3

abbrev pub action_of : ℕ → Option Action
action_of = one_numbered action_number (action.Add ∷ action.Modify ∷ action.Remove ∷ [])

-- what of a resource changes
abbrev pub attribute_number : Attribute → ℕ
attribute_number attribute.Properties = 1
attribute_number attribute.DeletionPolicy = 2
attribute_number attribute.UpdateReplacePolicy = 3

abbrev pub attribute_numbered : ℕ → Option Attribute
attribute_numbered = one_numbered attribute_number (attribute.Properties ∷ attribute.DeletionPolicy ∷ attribute.UpdateReplacePolicy ∷ [])

-- whether a detail may have this name: a property has one, and a policy has none
abbrev pub is_named : Attribute → List ℕ → Bool
is_named attribute.Properties name = true
is_named attribute.DeletionPolicy name = length name == 0
is_named attribute.UpdateReplacePolicy name = length name == 0

-- whether a change replaces the resource
abbrev pub recreation_number : Recreation → ℕ
recreation_number recreation.Never = 1
recreation_number recreation.Conditionally = 2
recreation_number recreation.Always = 3

abbrev pub recreation_numbered : ℕ → Option Recreation
recreation_numbered = one_numbered recreation_number (recreation.Never ∷ recreation.Conditionally ∷ recreation.Always ∷ [])

-- whether the new value is known
abbrev pub evaluation_number : Evaluation → ℕ
evaluation_number evaluation.Static = 1
evaluation_number evaluation.Dynamic = 2

abbrev pub evaluation_of : ℕ → Option Evaluation
evaluation_of = one_numbered evaluation_number (evaluation.Static ∷ evaluation.Dynamic ∷ [])

-- whether a resource is replaced, and 0 where that is not said
abbrev pub replacement_number : Option Replacement → ℕ
replacement_number None = 0
replacement_number (Some replacement.True) = 1
replacement_number (Some replacement.False) = 2
replacement_number (Some replacement.Conditional) = 3

abbrev pub replacement_numbered : ℕ → Option (Option Replacement)
replacement_numbered =
    one_numbered replacement_number (None ∷ Some replacement.True ∷ Some replacement.False ∷ Some replacement.Conditional ∷ [])

-- a code's number, and 0 for a call that broke off
abbrev pub reason_number : Reason → ℕ
reason_number (reason.Code code) = number_of code
reason_number reason.Fault = 0

abbrev pub reason_of : ℕ → Option Reason
reason_of n = if n == 0 then Some reason.Fault else option_map reason.Code (code_of n)

-- a cause stands exactly where an operation turns back
abbrev pub has_cause : Phase → Option Cause → Bool
has_cause phase.Back (Some cause) = true
has_cause phase.Back None = false
has_cause _ (Some cause) = false
has_cause _ None = true
