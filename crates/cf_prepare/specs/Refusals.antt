-- Why a wish is refused (User Guide: what a stack's status lets be done, change sets, exports that are in use; TypeChanged, and
-- that an export's name is tested before anything is made, are this project's own).
use Rattle.std.specs.Prelude.{ℕ, ◌==◌, Bool, not, List, [], ◌∷◌, ◌++◌, Option, Some, None, filter, find, fold, is_some, map, option_map, if◌then◌else◌}
use Rattle.cf_tree.specs.Lists.{first_in, is_among, least_by}
use Rattle.cf_tree.specs.declared.source.Source.{Source}
use Rattle.cf_schema.specs.declared.described.Schema.{Schema}
use Rattle.cf_desired.specs.Plan.{plan_of}
use Rattle.cf_desired.specs.Seeing.{Seen}
use Rattle.cf_desired.specs.Whole.{export_names}
use Rattle.cf_desired.specs.declared.wanted.Plan.{Plan}
use Rattle.cf_desired.specs.declared.wanted.Wanted.{Wanted}
use Rattle.cf_change.specs.Changes.{Changes, is_unchanged, least_of}
use Rattle.cf_entry.specs.declared.status.Status.{Status}
use Rattle.cf_entry.specs.declared.status.Status.TheVariants as status
use Rattle.cf_effect.specs.declared.held.KeptSet.{KeptSet}
use Rattle.cf_effect.specs.World.{StackState, World, known_stack, stack_at}
use Rattle.cf_effect.specs.Begin.{source_for}
use Rattle.cf_effect.specs.Status.{is_in_progress}
use Rattle.cf_plan.specs.Accept.{changes_on, creates_from, exports_of_others, is_exported_elsewhere, is_taken_away, schema_kinds, seen_before, with_imports}
use Rattle.cf_plan.specs.Follow.{continues_from, deletes_from, deploys_from, failed_of, lane_kinds, set_number}
use Rattle.cf_prepare.specs.Answer.{first_of}
use Rattle.cf_prepare.specs.declared.wish.StackFault.TheVariants as stack
use Rattle.cf_prepare.specs.declared.wish.PrepareFault.{PrepareFault}
use Rattle.cf_prepare.specs.declared.wish.PrepareFault.TheVariants as fault

-- Of the stack: there is none of the name; or none of its operations may come from its status.
abbrev pub if_missing : List ℕ → World → Option PrepareFault
if_missing name x = if is_some (stack_at name x) then None else Some (fault.Stack stack.NoStack)

abbrev pub if_barred : (Status → Bool) → StackState → Option PrepareFault
if_barred may s = if may s.status then None else Some (fault.Stack (stack.WrongStatus s.status))

-- the change set of a number
abbrev pub set_of : ℕ → StackState → Option KeptSet
set_of number s = find (λ k. number == k.number) s.sets

abbrev pub if_no_set : ℕ → StackState → Option PrepareFault
if_no_set number s = if is_some (set_of number s) then None else Some (fault.Stack (stack.NoChangeSet number))

-- the first of these paths that is not among those that failed as the last operation ended
abbrev pub if_not_failed : List (List ℕ) → List (List ℕ) → Option PrepareFault
if_not_failed failed paths = option_map (λ p. fault.Stack (stack.NotFailed p)) (find (λ p. not (is_among p failed)) paths)

-- a repeated deletion may keep what failed; any other one keeps nothing
abbrev pub may_keep : Status → StackState → List (List ℕ)
may_keep status.DeleteFailed s = failed_of s
may_keep _ s = []

-- Of the source: its first flaw.
abbrev pub if_flawed : Plan → Option PrepareFault
if_flawed p = option_map (λ f. fault.Plan f) (first_in p.flaws)

-- the first path, in byte order, of a type that there is not
abbrev pub is_unknown_type : List (List ℕ) → Wanted → Bool
is_unknown_type kinds w = not (is_among w.kind kinds)

abbrev pub first_unknown : List (List ℕ) → List Wanted → Option Wanted
first_unknown kinds ws = fold (least_by (λ w. w.path)) None (filter (is_unknown_type kinds) ws)

abbrev pub if_unknown : List (List ℕ) → Plan → Option PrepareFault
if_unknown kinds p = option_map (λ w. fault.UnknownType w.path w.kind) (first_unknown kinds p.wanted)

-- the least path that is held with another type
abbrev pub if_type_changed : Changes → Option PrepareFault
if_type_changed c = option_map (λ p. fault.Stack (stack.TypeChanged p)) (least_of c.clash)

-- the least name that is exported twice, or that another stack exports or means to export
abbrev pub twice_in : List (List ℕ) → List (List ℕ)
twice_in [] = []
twice_in (n ∷ ns) = if is_among n ns then n ∷ twice_in ns else twice_in ns

abbrev pub taken_names : List ℕ → World → List (List ℕ) → List (List ℕ)
taken_names name x names = twice_in names ++ filter (is_exported_elsewhere name x) names

abbrev pub if_taken : List ℕ → World → Plan → Option PrepareFault
if_taken name x p = option_map (λ n. fault.Stack (stack.ExportTaken n)) (least_of (taken_names name x (export_names p)))

-- the least name of an export that another stack imports and that would be gone
abbrev pub lost_names : List ℕ → World → List (List ℕ) → List (List ℕ)
lost_names name x kept = map (λ e. e.name) (filter (is_taken_away name x kept) x.exports)

abbrev pub if_in_use : List ℕ → World → List (List ℕ) → Option PrepareFault
if_in_use name x kept = option_map (λ n. fault.Stack (stack.ExportInUse n)) (least_of (lost_names name x kept))

-- nothing changes
abbrev pub if_unchanged : Changes → Option PrepareFault
if_unchanged c = if is_unchanged c then Some (fault.Stack stack.NoChanges) else None

-- The source as the stack would work by it, with every export of other stacks to import; with those alone that it uses it comes
-- to the same (a law: UsedSuffice).
abbrev pub proposal : World → List ℕ → Source → Source
proposal x name source = with_imports (source_for name (set_number x (known_stack name x)) source) (exports_of_others name x)

-- what it changes, and what it wants over what that leaves to be seen
abbrev pub proposed_changes : List Schema → World → List ℕ → Source → Changes
proposed_changes schemas x name source = changes_on schemas name x (known_stack name x) (proposal x name source)

abbrev pub seen_proposed : List Schema → World → List ℕ → Source → Seen
seen_proposed schemas x name source = seen_before schemas (known_stack name x) (proposal x name source)

abbrev pub proposed_plan : List Schema → World → List ℕ → Source → Plan
proposed_plan schemas x name source = plan_of (proposal x name source) (seen_proposed schemas x name source)

-- a source is refused: for its plan, then its types, then its changes and exports
abbrev pub refusals_by : List (List ℕ) → World → List ℕ → Changes → Plan → List (Option PrepareFault)
refusals_by kinds x name c p =
    if_flawed p ∷ if_unknown kinds p ∷ if_type_changed c ∷ if_taken name x p ∷ if_in_use name x (export_names p) ∷ []

abbrev pub source_refusals : List (List ℕ) → List Schema → World → List ℕ → Source → List (Option PrepareFault)
source_refusals kinds schemas x name source =
    refusals_by kinds x name (proposed_changes schemas x name source) (proposed_plan schemas x name source)

-- The refusals of each wish, in their order. A stack is created also from a source that has nothing in it.
abbrev pub unless_created : StackState → Option PrepareFault → Option PrepareFault
unless_created s o = if creates_from s.status then None else o

abbrev pub deploy_refusal : List Schema → World → List ℕ → Source → Option PrepareFault
deploy_refusal schemas x name source =
    first_of (if_barred deploys_from (known_stack name x) ∷ first_of (source_refusals (lane_kinds x) schemas x name source)
    ∷ unless_created (known_stack name x) (if_unchanged (proposed_changes schemas x name source)) ∷ [])

abbrev pub review_refusal : List Schema → World → List ℕ → Source → Option PrepareFault
review_refusal schemas x name source =
    first_of (if_barred deploys_from (known_stack name x) ∷ first_of (source_refusals (schema_kinds schemas) schemas x name source)
    ∷ if_unchanged (proposed_changes schemas x name source) ∷ [])

-- of a change set that is executed: before its source is looked at, and then
abbrev pub set_refusal : World → List ℕ → ℕ → Option PrepareFault
set_refusal x name number =
    first_of (if_missing name x ∷ if_barred deploys_from (known_stack name x) ∷ if_no_set number (known_stack name x) ∷ [])

abbrev pub execute_refusal : List Schema → World → List ℕ → Source → Option PrepareFault
execute_refusal schemas x name source =
    first_of (first_of (source_refusals (lane_kinds x) schemas x name source) ∷ if_unchanged (proposed_changes schemas x name source) ∷ [])

-- A deletion is refused for a path that it may not keep, and for an export that is imported; a rollback that goes on, for a path
-- that did not fail.
abbrev pub delete_refusal : World → List ℕ → List (List ℕ) → Option PrepareFault
delete_refusal x name paths =
    first_of (if_missing name x ∷ if_barred deletes_from (known_stack name x)
    ∷ if_not_failed (may_keep (known_stack name x).status (known_stack name x)) paths ∷ if_in_use name x [] ∷ [])

abbrev pub continue_refusal : World → List ℕ → List (List ℕ) → Option PrepareFault
continue_refusal x name paths =
    first_of (if_missing name x ∷ if_barred continues_from (known_stack name x) ∷ if_not_failed (failed_of (known_stack name x)) paths ∷ [])

-- an operation goes on where one is in progress
abbrev pub resume_refusal : World → List ℕ → Option PrepareFault
resume_refusal x name = first_of (if_missing name x ∷ if_barred is_in_progress (known_stack name x) ∷ [])
