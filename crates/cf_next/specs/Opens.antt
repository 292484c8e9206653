-- The call that comes next while a create or an update goes forward, as it is found path by path in the order of names (this project's
-- own).
use Rattle.std.specs.Prelude.{◌≡◌, ◌<◌, ℕ, Bool, List, Option, None, Some, IfSome, find, option_and_then}
use Rattle.std.specs.List.{slice_get}
use Rattle.cf_schema.specs.declared.described.Schema.{Schema}
use Rattle.cf_effect.specs.Status.{Forward, Stage, stage_of}
use Rattle.cf_effect.specs.World.{StackState, World}
use Rattle.cf_plan.specs.Forward.{HasFailed}
use Rattle.cf_plan.specs.PathStates.{starts_from}
use Rattle.cf_plan.specs.Start.{Start}
use Rattle.cf_plan.specs.declared.path_state.PathState.{PathState}
use Rattle.cf_next.specs.declared.step.Next.{Next}
use Rattle.cf_next.specs.Chosen.{IsChosen}
use Rattle.cf_next.specs.First.{fits_one}

-- the first request that a path may begin with and that a lane at home fits; that of the path at a place, by what is known of each
abbrev pub fitting_from : List (List ℕ × List ℕ) → List Schema → StackState → List Bool → PathState → Option Start
fitting_from homes schemas s done p = find (fits_one homes) (starts_from schemas s done p)

abbrev pub fitting_placed : List (List ℕ × List ℕ) → List Schema → StackState → List PathState → List Bool → ℕ → Option Start
fitting_placed homes schemas s states done at = option_and_then (fitting_from homes schemas s done) (slice_get states at)

-- and that of the path of the name of a rank
abbrev pub open_ranked :
    List (List ℕ × List ℕ) → List Schema → StackState → List PathState → List Bool → List (List ℕ × ℕ) → ℕ → Option Start
open_ranked homes schemas s states done names rank = option_and_then (λ n. fitting_placed homes schemas s states done n.1) (slice_get names rank)

-- none is found at a rank that comes before
abbrev pub NoneOpen : List (List ℕ × List ℕ) → List Schema → StackState → List PathState → List Bool → List (List ℕ × ℕ) → ℕ → Type 0
NoneOpen homes schemas s states done names rank = (j : ℕ) → j < rank → open_ranked homes schemas s states done names j ≡ None

-- the first that is found, in the order of names
pub record IsFirstOpen (homes : List (List ℕ × List ℕ)) (schemas : List Schema) (s : StackState) (states : List PathState) (done : List Bool)
    (names : List (List ℕ × ℕ)) (a : Start) : Type 0 where
  pub rank : ℕ
  pub found : open_ranked homes schemas s states done names rank ≡ Some a
  pub first : NoneOpen homes schemas s states done names rank

-- this call is chosen on the stack of an operation that goes forward, unless its phase has failed
abbrev pub IsOpenCall : List ℕ → World → StackState → List Schema → Option Next → Type 0
IsOpenCall out x s schemas call = IfSome call (λ n. (name : List ℕ) → ¬ HasFailed schemas name x s → IsChosen schemas name x out s Forward n)

-- this step is chosen on the stack of an operation, whichever its stage
abbrev pub IsTakenBy : List ℕ → World → StackState → List Schema → List ℕ → Option Next → Type 0
IsTakenBy out x s schemas name taken =
    IfSome taken (λ n. (stage : Stage) → stage_of s.status ≡ Some stage → IsChosen schemas name x out s stage n)
