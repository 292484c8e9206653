-- Which paths are done, as it is found out: path after path joins those that are done already (this project's own).
use Rattle.std.specs.Prelude.{◌≡◌, ◌↔◌, ◌⊎◌, ℕ, Bool, ◌&&◌, false, List, [], ◌∷◌, ◌++◌, Option, Some, IsTrue, filter, map, not}
use Rattle.std.specs.List.{list_all}
use Rattle.cf_tree.specs.Lists.{is_among}
use Rattle.cf_desired.specs.declared.wanted.Plan.{Plan}
use Rattle.cf_desired.specs.declared.wanted.Wanted.{Wanted}
use Rattle.cf_desired.specs.Whole.{wanted_at}
use Rattle.cf_effect.specs.declared.held.Held.{Held}
use Rattle.cf_effect.specs.World.{StackState}
use Rattle.cf_effect.specs.Reply.{terms_of}
use Rattle.cf_effect.specs.Words.{current_at, is_update}
use Rattle.cf_effect.specs.declared.call.Call.{Call}
use Rattle.cf_effect.specs.Calls.{own_calls, succeeded}
use Rattle.cf_plan.specs.declared.found.Found as found
use Rattle.cf_plan.specs.declared.found.Found.TheVariants.{Bad as bad, Later as not_yet, Known as known}
use Rattle.cf_plan.specs.Between.{needs_at}
use Rattle.cf_plan.specs.Forward.{IsDone, Finding, Bad, Later, Known, finding_by, finding_over, wanted_paths}
use Rattle.cf_tree.specs.Lists.{In}

-- what properties come to, as code has it
abbrev pub finding_of : found.Found → Finding
finding_of (bad flaw) = Bad flaw.now
finding_of not_yet = Later
finding_of (known kind props) = Known kind.now props

-- by a plan, what a path needs
abbrev pub planned_needs : List ℕ → Plan → List (List ℕ)
planned_needs path p = (terms_of (wanted_at path p)).needs

abbrev pub are_met : List ℕ → Plan → List (List ℕ) → Bool
are_met path p done = list_all (λ n. is_among n done) (planned_needs path p)

-- a plan with the paths of the operation's template and what each of them needs, whatever it has of their properties
pub record HasTerms (s : StackState) (p : Plan) : Type 0 where
  pub paths : map (λ w. w.path) p.wanted ≡ wanted_paths s
  pub needs : (path : List ℕ) → planned_needs path p ≡ needs_at path s

-- what is held at a path is sure and has the type and properties that a plan gives the path
abbrev pub IsHeldRight : List ℕ → Plan → List Held → Type 0
IsHeldRight path p held = (h : Held) × (current_at path held ≡ Some h) × (h.unsure ≡ false) × (finding_by path p ≡ Known h.kind h.props)

abbrev pub IsFoundRight : Option Wanted → Option Held → Type 0
IsFoundRight w o = (h : Held) × (o ≡ Some h) × (h.unsure ≡ false) × (finding_over w ≡ Known h.kind h.props)

-- the paths that are done whatever the template says: those of what was made, and of the updates that succeeded
abbrev pub made_paths : StackState → List (List ℕ)
made_paths s = map (λ h. h.path) (filter (λ h. not h.superseded) s.made)

abbrev pub is_good_update : Call → Bool
is_good_update c = is_update c.request && succeeded c

abbrev pub updated_paths : StackState → List (List ℕ)
updated_paths s = map (λ c. c.path) (filter is_good_update (own_calls s))

-- a path that is not among those that are done, though it is right and its needs are done
abbrev pub IsFresh : Plan → Plan → List Held → List (List ℕ) → List ℕ → Type 0
IsFresh before now held done p = (is_among p done ≡ false) × IsTrue (are_met p before done) × IsHeldRight p now held

abbrev pub CanJoin : Plan → Plan → List Held → List (List ℕ) → List ℕ → Type 0
CanJoin before now held done p = In p (map (λ w. w.path) before.wanted) × IsFresh before now held done p

-- a path joins where it is fresh, and nothing changes where it isn't
abbrev pub AddsPath : Plan → Plan → List Held → List ℕ → List (List ℕ) → List (List ℕ) → Type 0
AddsPath before now held p old new =
    (IsFresh before now held old p × (new ≡ old ++ p ∷ [])) ⊎ ((IsFresh before now held old p → ⊥) × (new ≡ old))

-- one such path after another has joined
pub data Joined (before now : Plan) (held : List Held) (old : List (List ℕ)) : List (List ℕ) → Type 0 where
  none : Joined before now held old old
  one : {done : List (List ℕ)} {p : List ℕ} → Joined before now held old done → CanJoin before now held done p
      → Joined before now held old (done ++ p ∷ [])

-- these are just the paths that are done
abbrev pub AreDone : StackState → List (List ℕ) → Type 0
AreDone s done = (p : List ℕ) → IsDone s p ↔ IsTrue (is_among p done)
