-- The call that comes next in the rollback of an update, as it is found by what is kept of it (this project's own).
use Rattle.std.specs.Prelude.{◌≡◌, ◌<◌, ◌&&◌, ℕ, true, false, List, Option, None, Some, slice_index_or, if◌then◌else◌}
use Rattle.std.specs.Option.{option_and_then}
use Rattle.cf_effect.specs.declared.held.Held.{Held}
use Rattle.cf_effect.specs.declared.restoring.Restoring.{Restoring}
use Rattle.cf_effect.specs.Restoring.{held_ranked}
use Rattle.cf_effect.specs.World.{StackState}
use Rattle.cf_plan.specs.Follow.{is_free}
use Rattle.cf_plan.specs.Start.{Start}
use Rattle.cf_next.specs.First.{fits_one}
use Rattle.cf_next.specs.Restoring.{restore_of}

-- a resource of before is given back what it had, where no call of its path is open and a lane at home fits that
abbrev pub restore_fitting : List (List ℕ × List ℕ) → StackState → Held → Option Start
restore_fitting homes s h = if is_free h.path s && fits_one homes (restore_of h) then Some (restore_of h) else None

-- and the one of the path of a rank
abbrev pub restore_ranked : List (List ℕ × List ℕ) → StackState → Restoring → ℕ → Option Start
restore_ranked homes s r rank = option_and_then (restore_fitting homes s) (held_ranked s.before r.paths rank)

-- none is found at a rank that comes before, of those that are still to be given back what they had
abbrev pub NoneAwaited : List (List ℕ × List ℕ) → StackState → Restoring → ℕ → Type 0
NoneAwaited homes s r rank = (j : ℕ) → j < rank → slice_index_or r.awaited j false ≡ true → restore_ranked homes s r j ≡ None

-- the first that is found, in the order of paths
pub record IsFirstRestore (homes : List (List ℕ × List ℕ)) (s : StackState) (r : Restoring) (a : Start) : Type 0 where
  pub rank : ℕ
  pub awaited : slice_index_or r.awaited rank false ≡ true
  pub found : restore_ranked homes s r rank ≡ Some a
  pub first : NoneAwaited homes s r rank
