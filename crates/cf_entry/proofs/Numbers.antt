-- The readers of what one byte tells fit its numbers.
use Rattle.std.proofs.Common.{◌≡◌, ℕ, ◌<◌, Bool, true, eqb, List, [], ◌∷◌, Option, Some, None, refl, sym, ap, subst, ◌∙◌, arith, inl, inr}
use Rattle.std.specs.Prelude.{find, ◌==◌, option_map}
use Rattle.std.proofs.lemmas.Bool.{eqb-true}
use Rattle.cf_tree.specs.Codes.{number_of, code_of, all_codes}
use Rattle.cf_tree.specs.declared.code.Code.{Code}
use Rattle.cf_tree.specs.declared.code.Code.TheVariants as code
use Rattle.cf_tree.specs.declared.row.Action.{Action}
use Rattle.cf_tree.specs.declared.row.Action.TheVariants as action
use Rattle.cf_tree.specs.declared.row.Replacement.{Replacement}
use Rattle.cf_tree.specs.declared.row.Replacement.TheVariants as replacement
use Rattle.cf_tree.specs.declared.row.Attribute.{Attribute}
use Rattle.cf_tree.specs.declared.row.Attribute.TheVariants as attribute
use Rattle.cf_tree.specs.declared.row.Recreation.{Recreation}
use Rattle.cf_tree.specs.declared.row.Recreation.TheVariants as recreation
use Rattle.cf_tree.specs.declared.row.Evaluation.{Evaluation}
use Rattle.cf_tree.specs.declared.row.Evaluation.TheVariants as evaluation
use Rattle.cf_entry.specs.declared.turn.Phase.{Phase}
use Rattle.cf_entry.specs.declared.turn.Phase.TheVariants as phase
use Rattle.cf_entry.specs.declared.turn.Reason.{Reason}
use Rattle.cf_entry.specs.declared.turn.Reason.TheVariants as reason
use Rattle.cf_entry.specs.declared.turn.Why.{Why}
use Rattle.cf_entry.specs.declared.turn.Why.TheVariants as why
use Rattle.cf_entry.specs.Numbers.{one_numbered, why_number, why_of, phase_number, phase_of, action_number, action_of, attribute_number, attribute_numbered, recreation_number, recreation_numbered, evaluation_number, evaluation_of, replacement_number, replacement_numbered, reason_number, reason_of}
use Rattle.cf_entry.specs.Reading.{pick_at, byte_at}
use Rattle.cf_entry.proofs.Codec.{some_is, if_some, Codes, codes_pick}
use Rattle.cf_entry.proofs.Fields.{codes_byte}

-- what is found by a test passes it
pub found_holds : {X : Type 0} (test : X → Bool) (xs : List X) (x : X) → find test xs ≡ Some x → test x ≡ true
found_holds test [] x e = absurd cc
found_holds test (y ∷ ys) x e =
    elim (if_some (test y) (Some y) (find test ys) x e) [
      | inl a ↦ subst (λ z. test z ≡ true) (some_is y x a.1) a.0
      | inr a ↦ found_holds test ys x a.1
    ]

-- the number of each, where no two have the same
pub codes_numbered : {X : Type 0} (number : X → ℕ) (all : List X) → ((x : X) → (number x < 256) × (one_numbered number all (number x) ≡ Some x)) → Codes (λ x. number x ∷ []) (λ x. Unit {0}) (pick_at (one_numbered number all) byte_at)
codes_numbered number all back = codes_pick (λ b. b ∷ []) (λ b. b < 256) byte_at (one_numbered number all) (λ x. number x ∷ []) (λ x. Unit {0}) codes_byte
    (λ n x fits e. (ap (λ m. m ∷ []) (sym (eqb-true _ _ (found_holds (λ y. number y == n) all x e))), tt))
    (λ x h. (number x, (back x).0, (back x).1, refl))

why_back : (x : Why) → (why_number x < 256) × (why_of (why_number x) ≡ Some x)
why_back why.Retained = (omega arith, refl)
why_back why.Failed = (omega arith, refl)
why_back why.Doubt = (omega arith, refl)

pub codes_why : Codes (λ x. why_number x ∷ []) (λ x. Unit {0}) (pick_at why_of byte_at)
codes_why = codes_numbered why_number (why.Retained ∷ why.Failed ∷ why.Doubt ∷ []) why_back

phase_back : (x : Phase) → (phase_number x < 256) × (phase_of (phase_number x) ≡ Some x)
phase_back phase.Clean = (omega arith, refl)
phase_back phase.Back = (omega arith, refl)
phase_back phase.BackClean = (omega arith, refl)

pub codes_phase : Codes (λ x. phase_number x ∷ []) (λ x. Unit {0}) (pick_at phase_of byte_at)
codes_phase = codes_numbered phase_number (phase.Clean ∷ phase.Back ∷ phase.BackClean ∷ []) phase_back

action_back : (x : Action) → (action_number x < 256) × (action_of (action_number x) ≡ Some x)
action_back action.Add = (omega arith, refl)
action_back action.Modify = (omega arith, refl)
action_back action.Remove = (omega arith, refl)

pub codes_action : Codes (λ x. action_number x ∷ []) (λ x. Unit {0}) (pick_at action_of byte_at)
codes_action = codes_numbered action_number (action.Add ∷ action.Modify ∷ action.Remove ∷ []) action_back

attribute_back : (x : Attribute) → (attribute_number x < 256) × (attribute_numbered (attribute_number x) ≡ Some x)
attribute_back attribute.Properties = (omega arith, refl)
attribute_back attribute.DeletionPolicy = (omega arith, refl)
attribute_back attribute.UpdateReplacePolicy = (omega arith, refl)

pub codes_attribute : Codes (λ x. attribute_number x ∷ []) (λ x. Unit {0}) (pick_at attribute_numbered byte_at)
codes_attribute = codes_numbered attribute_number (attribute.Properties ∷ attribute.DeletionPolicy ∷ attribute.UpdateReplacePolicy ∷ []) attribute_back

recreation_back : (x : Recreation) → (recreation_number x < 256) × (recreation_numbered (recreation_number x) ≡ Some x)
recreation_back recreation.Never = (omega arith, refl)
recreation_back recreation.Conditionally = (omega arith, refl)
recreation_back recreation.Always = (omega arith, refl)

pub codes_recreation : Codes (λ x. recreation_number x ∷ []) (λ x. Unit {0}) (pick_at recreation_numbered byte_at)
codes_recreation = codes_numbered recreation_number (recreation.Never ∷ recreation.Conditionally ∷ recreation.Always ∷ []) recreation_back

evaluation_back : (x : Evaluation) → (evaluation_number x < 256) × (evaluation_of (evaluation_number x) ≡ Some x)
evaluation_back evaluation.Static = (omega arith, refl)
evaluation_back evaluation.Dynamic = (omega arith, refl)

pub codes_evaluation : Codes (λ x. evaluation_number x ∷ []) (λ x. Unit {0}) (pick_at evaluation_of byte_at)
codes_evaluation = codes_numbered evaluation_number (evaluation.Static ∷ evaluation.Dynamic ∷ []) evaluation_back

replacement_back : (x : Option Replacement) → (replacement_number x < 256) × (replacement_numbered (replacement_number x) ≡ Some x)
replacement_back None = (omega arith, refl)
replacement_back (Some replacement.True) = (omega arith, refl)
replacement_back (Some replacement.False) = (omega arith, refl)
replacement_back (Some replacement.Conditional) = (omega arith, refl)

pub codes_replacement : Codes (λ x. replacement_number x ∷ []) (λ x. Unit {0}) (pick_at replacement_numbered byte_at)
codes_replacement = codes_numbered replacement_number (None ∷ Some replacement.True ∷ Some replacement.False ∷ Some replacement.Conditional ∷ []) replacement_back

-- ---- codes and reasons

code_there : (n : ℕ) (c : Code) → code_of n ≡ Some c → n ≡ number_of c
code_there n c e = sym (eqb-true _ _ (found_holds (λ d. number_of d == n) all_codes c e))

code_back : (c : Code) → (number_of c < 256) × (code_of (number_of c) ≡ Some c)
code_back code.NotUpdatable = (omega arith, refl)
code_back code.InvalidRequest = (omega arith, refl)
code_back code.AccessDenied = (omega arith, refl)
code_back code.InvalidCredentials = (omega arith, refl)
code_back code.AlreadyExists = (omega arith, refl)
code_back code.NotFound = (omega arith, refl)
code_back code.ResourceConflict = (omega arith, refl)
code_back code.Throttling = (omega arith, refl)
code_back code.ServiceLimitExceeded = (omega arith, refl)
code_back code.NotStabilized = (omega arith, refl)
code_back code.GeneralServiceException = (omega arith, refl)
code_back code.ServiceInternalError = (omega arith, refl)
code_back code.NetworkFailure = (omega arith, refl)
code_back code.InternalFailure = (omega arith, refl)

pub codes_code : Codes (λ c. number_of c ∷ []) (λ c. Unit {0}) (pick_at code_of byte_at)
codes_code = codes_pick (λ b. b ∷ []) (λ b. b < 256) byte_at code_of (λ c. number_of c ∷ []) (λ c. Unit {0}) codes_byte
    (λ n c fits e. (ap (λ m. m ∷ []) (code_there n c e), tt))
    (λ c h. (number_of c, (code_back c).0, (code_back c).1, refl))

mapped : (o : Option Code) (r : Reason) → option_map reason.Code o ≡ Some r → (c : Code) × (o ≡ Some c) × (reason.Code c ≡ r)
mapped (Some c) r e = (c, refl, some_is (reason.Code c) r e)
mapped None r e = absurd cc

reason_there : (n : ℕ) (r : Reason) → reason_of n ≡ Some r → n ≡ reason_number r
reason_there n r e =
    elim (if_some (eqb n 0) (Some reason.Fault) (option_map reason.Code (code_of n)) r e) [
      | inl a ↦ eqb-true _ _ a.0 ∙ ap reason_number (some_is reason.Fault r a.1)
      | inr a ↦ let m = mapped (code_of n) r a.1 in code_there n m.0 m.1 ∙ ap reason_number m.2
    ]

reason_back : (r : Reason) → (reason_number r < 256) × (reason_of (reason_number r) ≡ Some r)
reason_back reason.Fault = (omega arith, refl)
reason_back (reason.Code code.NotUpdatable) = (omega arith, refl)
reason_back (reason.Code code.InvalidRequest) = (omega arith, refl)
reason_back (reason.Code code.AccessDenied) = (omega arith, refl)
reason_back (reason.Code code.InvalidCredentials) = (omega arith, refl)
reason_back (reason.Code code.AlreadyExists) = (omega arith, refl)
reason_back (reason.Code code.NotFound) = (omega arith, refl)
reason_back (reason.Code code.ResourceConflict) = (omega arith, refl)
reason_back (reason.Code code.Throttling) = (omega arith, refl)
reason_back (reason.Code code.ServiceLimitExceeded) = (omega arith, refl)
reason_back (reason.Code code.NotStabilized) = (omega arith, refl)
reason_back (reason.Code code.GeneralServiceException) = (omega arith, refl)
reason_back (reason.Code code.ServiceInternalError) = (omega arith, refl)
reason_back (reason.Code code.NetworkFailure) = (omega arith, refl)
reason_back (reason.Code code.InternalFailure) = (omega arith, refl)

pub codes_reason : Codes (λ r. reason_number r ∷ []) (λ r. Unit {0}) (pick_at reason_of byte_at)
codes_reason = codes_pick (λ b. b ∷ []) (λ b. b < 256) byte_at reason_of (λ r. reason_number r ∷ []) (λ r. Unit {0}) codes_byte
    (λ n r fits e. (ap (λ m. m ∷ []) (reason_there n r e), tt))
    (λ r h. (reason_number r, (reason_back r).0, (reason_back r).1, refl))
