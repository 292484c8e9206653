-- The deletion that comes next in the rollback of a creation, as it is found by what is kept of it (this project's own).
use Rattle.std.specs.Prelude.{◌≡◌, ◌<◌, ◌&&◌, ℕ, Bool, true, false, not, List, [], ◌∷◌, Option, None, Some, slice_index_or, if◌then◌else◌}
use Rattle.std.specs.List.{list_any, slice_get}
use Rattle.std.specs.Option.{option_and_then}
use Rattle.cf_tree.specs.Lists.{is_among}
use Rattle.cf_tree.specs.declared.request.Request.TheVariants as request
use Rattle.cf_schema.specs.declared.described.Schema.{Schema}
use Rattle.cf_effect.specs.declared.layout.Placed.{Placed}
use Rattle.cf_effect.specs.declared.undoing.Undoing.{Undoing}
use Rattle.cf_effect.specs.Status.{Stage, stage_of}
use Rattle.cf_effect.specs.Undoing.{id_at}
use Rattle.cf_effect.specs.Words.{is_create}
use Rattle.cf_effect.specs.World.{StackState, World}
use Rattle.cf_plan.specs.Between.{needs_at}
use Rattle.cf_plan.specs.Follow.{is_free}
use Rattle.cf_plan.specs.Start.{Start}
use Rattle.cf_next.specs.declared.step.Next.{Next}
use Rattle.cf_next.specs.Chosen.{IsChosen}
use Rattle.cf_next.specs.First.{fits_one}

-- an open create needs a path
abbrev pub has_create : List ℕ → StackState → Bool
has_create path s = list_any (λ p. is_create p.request && is_among path (needs_at p.path s)) s.tokens

-- What stands at a place may be deleted once nothing that is left needs it: no call of its path is open, its deletion was not begun, and
-- no open create needs it.
abbrev pub may_delete : StackState → Undoing → ℕ → List ℕ → Bool
may_delete s u at path = is_free path s && (not (slice_index_or u.tried.items at false) && not (has_create path s))

-- its deletion, where a lane at home fits it
abbrev pub deletion_of : List ℕ → List ℕ → Start
deletion_of path id = record { path = path; request = request.Delete id }

abbrev pub fitting_of : List (List ℕ × List ℕ) → StackState → Undoing → ℕ → List ℕ → List ℕ → Option Start
fitting_of homes s u at path id =
    if may_delete s u at path && fits_one homes (deletion_of path id) then Some (deletion_of path id) else None

abbrev pub deletion_at : List (List ℕ × List ℕ) → StackState → Undoing → ℕ → Option Start
deletion_at homes s u at =
    option_and_then (λ row. option_and_then (λ id. fitting_of homes s u at row.path id) (id_at u.ids.items at)) (slice_get u.layout.rows.items at)

-- and of the path of the name of a rank
abbrev pub deletion_ranked : List (List ℕ × List ℕ) → StackState → Undoing → ℕ → Option Start
deletion_ranked homes s u rank = option_and_then (λ p. deletion_at homes s u p.1) (slice_get u.layout.places rank)

-- none is found at a rank that comes before, where nothing that is left needs the path
abbrev pub NoneBefore : List (List ℕ × List ℕ) → StackState → Undoing → ℕ → Type 0
NoneBefore homes s u rank = (j : ℕ) → j < rank → slice_index_or u.readiness.ready j false ≡ true → deletion_ranked homes s u j ≡ None

-- the first that is found, in the order of names
pub record IsFirstFound (homes : List (List ℕ × List ℕ)) (s : StackState) (u : Undoing) (a : Start) : Type 0 where
  pub rank : ℕ
  pub ready : slice_index_or u.readiness.ready rank false ≡ true
  pub found : deletion_ranked homes s u rank ≡ Some a
  pub first : NoneBefore homes s u rank

-- this step is chosen on the stack of an operation, whichever its stage and the schemas
abbrev pub IsTaken : List ℕ → World → StackState → Option Next → Type 0
IsTaken out x s None = Unit {0}
IsTaken out x s (Some n) =
    (schemas : List Schema) (name : List ℕ) (stage : Stage) → stage_of s.status ≡ Some stage → IsChosen schemas name x out s stage n
