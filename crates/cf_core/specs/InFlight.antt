-- Calls in flight, which leases stand for: none is given up before it is back, so its outcome may be written (this project's own).
use Rattle.std.specs.Prelude.{◌≡◌, ℕ, true, List, [], Some}
use Rattle.cf_schema.specs.declared.described.Schema.{Schema}
use Rattle.cf_effect.specs.declared.held.Pending.{Pending}
use Rattle.cf_effect.specs.Status.{Stage, stage_of}
use Rattle.cf_effect.specs.Words.{pending_of}
use Rattle.cf_effect.specs.World.{StackState, World, stack_at, stack_of_operation}
use Rattle.cf_tree.specs.Lists.{In}
use Rattle.cf_plan.specs.Follow.{may_repeat}
use Rattle.cf_plan.specs.Life.{Event, Happens, Lease, Life, life_after, world_of}
use Rattle.cf_core.specs.OnCourse.{IsOnWay}
use Rattle.cf_core.specs.SoundLife.{IsSoundLife}

-- The call of the token is open on the stack, and may be made again once it is back: it was in doubt fewer than three times, and a
-- deletion of the stack does not retain its path.
pub record IsOpenCall (s : StackState) (token : ℕ) : Type 0 where
  pub stage : Stage
  pub pending : Pending
  pub in_stage : stage_of s.status ≡ Some stage
  pub found : pending_of token s ≡ Some pending
  pub again : may_repeat stage [] s pending ≡ true

-- the call of a lease is, on the stack of its operation
pub record IsOpenLease (x : World) (lease : Lease) : Type 0 where
  pub name : List ℕ
  pub stack : StackState
  pub at : stack_of_operation lease.number x ≡ Some (name, stack)
  pub call : IsOpenCall stack lease.token

abbrev pub LeasesOpen : Life → Type 0
LeasesOpen life = (l : Lease) → In l life.leases → IsOpenLease (world_of life) l

-- each event keeps it so, where each stack is on its course
abbrev pub LeasesStayOpen : Type 0
LeasesStayOpen =
    (schemas : List Schema) (life : Life) (event : Event) → Happens schemas life event → IsSoundLife schemas life
    → ((name : List ℕ) (s : StackState) → stack_at name (world_of life) ≡ Some s → IsOnWay schemas name (world_of life) s)
    → LeasesOpen life → LeasesOpen (life_after life event)
