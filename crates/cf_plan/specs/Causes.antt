-- Whether the forward phase has failed, and for which cause, as code tells it (this project's own).
use Rattle.std.specs.Prelude.{ℕ, Bool, true, false, List, Option, Some, None, find, if◌then◌else◌}
use Rattle.cf_tree.specs.Lists.{first_in}
use Rattle.cf_entry.specs.declared.turn.Cause.TheVariants as cause
use Rattle.cf_entry.specs.declared.turn.Reason.{Reason}
use Rattle.cf_export.specs.declared.Export.{Export}
use Rattle.cf_desired.specs.declared.flaw.Flaw.{Flaw}
use Rattle.cf_desired.specs.declared.wanted.Plan.{Plan}
use Rattle.cf_desired.specs.FlawText.{flaw_text}
use Rattle.cf_schema.specs.declared.described.Schema.{Schema}
use Rattle.cf_effect.specs.World.{StackState, World}
use Rattle.cf_plan.specs.Failed.{are_all_done, flaws_found, least}
use Rattle.cf_plan.specs.Forward.{HasFailed, IsCause, is_lost, path_of_token}
use Rattle.cf_plan.specs.declared.cause.Failure.{Failure}
use Rattle.cf_plan.specs.declared.cause.Failure.TheVariants.{Nothing, Because}

-- A call that failed the phase, which has its row in the ledger and so a path; a flaw; an export.
abbrev pub failure_of_call : Option (List ℕ) → Reason → Failure
failure_of_call (Some path) reason = Because (cause.Handler path reason)
failure_of_call None reason = Nothing

abbrev pub or_call : Option (ℕ × Reason) → StackState → Failure → Failure
or_call None s other = other
or_call (Some failing) s other = failure_of_call (path_of_token failing.0 s) failing.1

abbrev pub or_path : Option (List ℕ × Flaw) → Failure → Failure
or_path None other = other
or_path (Some bad) other = Because (cause.Plan (flaw_text bad.1))

abbrev pub or_flaw : Option Flaw → Failure → Failure
or_flaw None other = other
or_flaw (Some flaw) other = Because (cause.Plan (flaw_text flaw))

abbrev pub of_export : Option Export → Failure
of_export None = Nothing
of_export (Some export) = Because (cause.Export export.name)

-- what fails the phase where all paths are done, and over all paths
abbrev pub end_failure : List ℕ → World → Plan → Failure
end_failure name x now = or_flaw (first_in now.flaws) (of_export (find (is_lost name x now) x.exports))

abbrev pub plan_failure : List ℕ → World → Plan → Plan → List (List ℕ) → Failure
plan_failure name x before now done =
    or_path (least (flaws_found before now done)) (if are_all_done before done then end_failure name x now else Nothing)

-- The phase has not failed; or it has, for this cause.
abbrev pub IsFailureOf : List Schema → List ℕ → World → StackState → Failure → Type 0
IsFailureOf schemas name x s Nothing = ¬ HasFailed schemas name x s
IsFailureOf schemas name x s (Because c) = HasFailed schemas name x s × IsCause schemas name x s c

-- the phase has not failed
abbrev pub is_nothing : Failure → Bool
is_nothing Nothing = true
is_nothing (Because c) = false
