-- The laws of who is blamed: what a stack's entries and ledger say of each other stays so with each entry that is written, and where
-- an operation fails, paths are named, each of which has an outcome that was refused or broke off (this project's own).
use Rattle.std.specs.Prelude.{◌≡◌, ℕ, true, List, ⊤}
use Rattle.cf_entry.specs.declared.entry.Entry.{Entry}
use Rattle.cf_entry.specs.declared.status.Status.{Status}
use Rattle.cf_entry.specs.declared.status.Status.TheVariants as status
use Rattle.cf_schema.specs.declared.described.Schema.{Schema}
use Rattle.cf_effect.specs.World.{StackState, World, no_stack}
use Rattle.cf_effect.specs.Fold.{world_after}
use Rattle.cf_plan.specs.Ends.{IsBlamed}
use Rattle.cf_plan.specs.Follow.{failed_of, is_failed_status}
use Rattle.cf_core.specs.Books.{IsBooked}
use Rattle.cf_core.specs.Course.{Course}
use Rattle.cf_core.specs.Fits.{IsWritten}
use Rattle.cf_core.specs.Whole.{HoldsWhole}

-- where a template is completed, the stack holds it whole
abbrev pub HoldsIfWhole : List ℕ → World → StackState → Status → Type 0
HoldsIfWhole name x s status.UpdateCompleteCleanupInProgress = HoldsWhole name x s
HoldsIfWhole name x s status.CreateComplete = HoldsWhole name x s
HoldsIfWhole name x s _ = ⊤

-- entries and ledger say so of each other after each entry
abbrev pub StayBooked : Type 0
StayBooked =
    (schemas : List Schema) (x : World) (out : List ℕ) (e : Entry) (name : List ℕ) (s t : StackState) → IsWritten schemas x out e name s t
    → Course schemas name x s → HoldsIfWhole name (world_after x e) t t.status → IsBooked t

-- a stack of which nothing is known begins so
abbrev pub NoneIsBooked : Type 0
NoneIsBooked = IsBooked no_stack

-- from the end of an operation that failed until the next one begins, paths are named, and each is blamed
abbrev pub FailedAreBlamed : Type 0
FailedAreBlamed =
    (schemas : List Schema) (x : World) (out : List ℕ) (e : Entry) (name : List ℕ) (s t : StackState) → IsWritten schemas x out e name s t
    → Course schemas name x s → is_failed_status t.status ≡ true → IsBlamed t (failed_of t)
