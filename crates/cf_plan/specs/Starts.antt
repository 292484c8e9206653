-- The requests that the forward phase may begin with, path by path, as code finds them (this project's own).
use Rattle.std.specs.Prelude.{◌≡◌, ◌⊎◌, ◌↔◌, ℕ, Bool, true, false, ◌&&◌, ◌||◌, not, List, [], ◌∷◌, ◌++◌, Option, Some, None, IsTrue, flat_map, fold, map, if◌then◌else◌}
use Rattle.std.specs.Str.{bytes_eq}
use Rattle.cf_tree.specs.Datum.{Data}
use Rattle.cf_tree.specs.declared.request.Request.{Request}
use Rattle.cf_tree.specs.declared.request.Request.TheVariants as request
use Rattle.cf_schema.specs.declared.described.Schema.{Schema}
use Rattle.cf_schema.specs.declared.changed.Difference.{Difference}
use Rattle.cf_schema.specs.declared.changed.Difference.TheVariants.{Same, Replace as ToReplace}
use Rattle.cf_effect.specs.declared.held.Held.{Held}
use Rattle.cf_effect.specs.World.{StackState}
use Rattle.cf_effect.specs.Words.{current_at}
use Rattle.cf_tree.specs.Keys.{put, value_at}
use Rattle.cf_tree.specs.Lists.{is_among}
use Rattle.cf_desired.specs.declared.wanted.Plan.{Plan}
use Rattle.cf_plan.specs.Done.{are_met}
use Rattle.cf_plan.specs.Forward.{Finding, Known, IsDone, finding_by, IsReady, difference_to, is_conditional, was_answered_at}
use Rattle.cf_tree.specs.Lists.{In}
use Rattle.cf_plan.specs.Follow.{IntendsForward, is_free, was_not_updatable}
use Rattle.cf_plan.specs.declared.forward.Wants.{Wants}
use Rattle.cf_plan.specs.Start.{Start}

abbrev pub is_replacing : Difference → Bool
is_replacing ToReplace = true
is_replacing _ = false

abbrev pub is_same : Difference → Bool
is_same Same = true
is_same _ = false

-- over what is held at a path: other properties want a new resource, or an update
abbrev pub wants_new : List Schema → StackState → Held → List (List ℕ × Data) → Bool
wants_new schemas s h props =
    is_replacing (difference_to schemas h props) || (is_conditional (difference_to schemas h props) && was_not_updatable s h)

abbrev pub wants_update : List Schema → Held → List (List ℕ × Data) → Bool
wants_update schemas h props =
    not (is_replacing (difference_to schemas h props)) && (h.unsure || not (is_same (difference_to schemas h props)))

abbrev pub create_over : List Schema → StackState → List ℕ → List (List ℕ × Data) → Option Held → Option Request
create_over schemas s kind props None = Some (request.Create kind props)
create_over schemas s kind props (Some h) = if wants_new schemas s h props then Some (request.Create kind props) else None

abbrev pub update_over : List Schema → StackState → List ℕ → List ℕ → List (List ℕ × Data) → Option Held → Option Request
update_over schemas s path kind props None = None
update_over schemas s path kind props (Some h) =
    if bytes_eq h.kind kind && (wants_update schemas h props && not (was_answered_at path s)) then Some
    (request.Update h.physical props) else None

-- the requests that a path wants by what its properties come to
abbrev pub wants_by : List Schema → StackState → List ℕ → Finding → Wants
wants_by schemas s path (Known kind props) = record {
  create = create_over schemas s kind props (current_at path s.held);
  update = update_over schemas s path kind props (current_at path s.held);
}
wants_by schemas s path _ = record { create = None; update = None }

-- these are just the requests that the phase intends at a path
abbrev pub AreIntended : List Schema → StackState → List ℕ → Wants → Type 0
AreIntended schemas s path w = (r : Request) → IntendsForward schemas s path r ↔ ((w.create ≡ Some r) ⊎ (w.update ≡ Some r))

-- a path that is not done may begin where all that it needs is done and no token of it is open
abbrev pub may_start : StackState → Plan → List (List ℕ) → List ℕ → Bool
may_start s before done path = not (is_among path done) && (are_met path before done && is_free path s)

abbrev pub with_start : List Schema → StackState → Plan → Plan → List (List ℕ) → List (List ℕ × Wants) → List ℕ → List (List ℕ × Wants)
with_start schemas s before now done starts path =
    if may_start s before done path then put path (wants_by schemas s path (finding_by path now)) starts else starts

abbrev pub starts_by : List Schema → StackState → Plan → Plan → List (List ℕ) → List (List ℕ × Wants)
starts_by schemas s before now done = fold (with_start schemas s before now done) [] (map (λ w. w.path) before.wanted)

-- one of these requests
abbrev pub IsWanted : Option Wants → Request → Type 0
IsWanted None r = ⊥
IsWanted (Some w) r = (w.create ≡ Some r) ⊎ (w.update ≡ Some r)

-- these are just the requests that may begin, by path, while the phase has not failed
abbrev pub AreRequests : List Schema → StackState → List (List ℕ × Wants) → Type 0
AreRequests schemas s starts =
    (path : List ℕ) (r : Request) →
    (IsReady s path × ¬ IsDone s path × IsTrue (is_free path s) × IntendsForward schemas s path r) ↔ IsWanted (value_at path starts) r

-- the requests that a map of paths has, each with its path
abbrev pub start_of : List ℕ → Option Request → List Start
start_of path None = []
start_of path (Some r) = record { path = path; request = r } ∷ []

abbrev pub starts_at : List ℕ × Wants → List Start
starts_at e = start_of e.0 e.1.create ++ start_of e.0 e.1.update

abbrev pub starts_in : List (List ℕ × Wants) → List Start
starts_in starts = flat_map starts_at starts

-- these are just the requests that may begin while the forward phase has not failed
abbrev pub AreOpen : List Schema → StackState → List Start → Type 0
AreOpen schemas s starts =
    (path : List ℕ) (r : Request)
    → (IsReady s path × ¬ IsDone s path × IsTrue (is_free path s) × IntendsForward schemas s path r)
    ↔ In (record { path = path; request = r }) starts
