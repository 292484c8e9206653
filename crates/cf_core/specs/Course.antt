-- Where an operation stands: what holds of its stack at each moment, stage by stage, and from its end until the next one begins
-- (User Guide: stack status codes; what holds in each is this project's own).
use Rattle.std.specs.Prelude.{◌≡◌, ◌⊎◌, ℕ, ◌+◌, true, List, [], length, Some, ⊤}
use Rattle.cf_tree.specs.declared.request.Request.TheVariants as request
use Rattle.cf_tree.specs.declared.source.Source.{Source}
use Rattle.cf_entry.specs.declared.status.Status.{Status}
use Rattle.cf_entry.specs.declared.status.Status.TheVariants as status
use Rattle.cf_schema.specs.declared.described.Schema.{Schema}
use Rattle.cf_effect.specs.declared.call.Call.{Call}
use Rattle.cf_effect.specs.declared.held.Held.{Held}
use Rattle.cf_effect.specs.declared.held.Pending.{Pending}
use Rattle.cf_effect.specs.World.{StackState, World}
use Rattle.cf_effect.specs.Calls.{call_under as call_of, deletions_of, refusals_of}
use Rattle.cf_plan.specs.Ends.{IsBlamed, IsCleared}
use Rattle.cf_plan.specs.Follow.{failed_of}
use Rattle.cf_tree.specs.Lists.{In}
use Rattle.cf_core.specs.Advancing.{IsAdvancing}
use Rattle.cf_core.specs.Whole.{DeletesSuperseded, HoldsWhole, IsHeldAtRest}
use Rattle.cf_core.specs.Back.{DeletesMade, IsBackAll, IsGoingBack}
use Rattle.cf_core.specs.Books.{IsBooked}

-- the call is of this operation
abbrev pub IsOwnCall : StackState → Pending → Type 0
IsOwnCall s p = (c : Call) × (call_of p.token s ≡ Some c) × (c.number ≡ s.operation)

-- an open call of it deletes the resource of this id
abbrev pub IsOpenDeletion : StackState → List ℕ → Pending → Type 0
IsOpenDeletion s id p = In p s.tokens × (p.request ≡ request.Delete id) × IsOwnCall s p

-- a cleanup's deletions of a resource: all were refused, or all but one that is open
abbrev pub IsTried : StackState → List ℕ → Type 0
IsTried s id =
    (length (deletions_of id s) ≡ refusals_of id s)
    ⊎ ((p : Pending) × IsOpenDeletion s id p × (length (deletions_of id s) ≡ refusals_of id s + 1))

-- an update has succeeded and cleans up
pub record IsCleaning (name : List ℕ) (x : World) (s : StackState) : Type 0 where
  pub whole : HoldsWhole name x s
  pub calls : (p : Pending) → In p s.tokens → DeletesSuperseded s p
  pub tried : (r : Held) → In r s.held → r.superseded ≡ true → IsTried s r.physical

-- an update was rolled back and cleans up what it made
pub record IsCleaningBack (s : StackState) : Type 0 where
  pub back : IsBackAll s
  pub calls : (p : Pending) → In p s.tokens → DeletesMade s p
  pub tried : (r : Held) → In r s.made → IsTried s r.physical

-- the rollback of a creation: nothing was there before
pub record IsUnmaking (s : StackState) : Type 0 where
  pub none_before : s.before ≡ []
  pub none_held : s.held ≡ []

-- In an operation, and after its end.
abbrev pub IsOnCourse : List Schema → List ℕ → World → StackState → Status → Type 0
IsOnCourse schemas name x s status.CreateInProgress = (source : Source) × IsAdvancing schemas s source × (s.before ≡ [])
IsOnCourse schemas name x s status.UpdateInProgress = (source : Source) × IsAdvancing schemas s source
IsOnCourse schemas name x s status.UpdateCompleteCleanupInProgress = IsCleaning name x s
IsOnCourse schemas name x s status.RollbackInProgress = IsUnmaking s
IsOnCourse schemas name x s status.UpdateRollbackInProgress = IsGoingBack s
IsOnCourse schemas name x s status.UpdateRollbackCompleteCleanupInProgress = IsCleaningBack s
IsOnCourse schemas name x s status.CreateComplete = HoldsWhole name x s × IsHeldAtRest s
IsOnCourse schemas name x s status.UpdateComplete = HoldsWhole name x s × IsHeldAtRest s
IsOnCourse schemas name x s status.UpdateRollbackComplete = IsBackAll s × IsHeldAtRest s
IsOnCourse schemas name x s status.UpdateRollbackFailed = IsGoingBack s × IsBlamed s (failed_of s)
IsOnCourse schemas name x s status.RollbackComplete = IsCleared s × (s.before ≡ [])
IsOnCourse schemas name x s status.RollbackFailed = IsBlamed s (failed_of s)
IsOnCourse schemas name x s status.DeleteFailed = IsBlamed s (failed_of s)
IsOnCourse schemas name x s status.DeleteComplete = IsCleared s
IsOnCourse schemas name x s status.ReviewInProgress = IsCleared s
IsOnCourse schemas name x s status.DeleteInProgress = ⊤

pub record Course (schemas : List Schema) (name : List ℕ) (x : World) (s : StackState) : Type 0 where
  pub stage : IsOnCourse schemas name x s s.status
  pub booked : IsBooked s
