-- What going on with an operation is refused for: in the forward phase, a path that is still to be done and has a type that no lane
-- has (this project's own).
use Rattle.std.specs.Prelude.{◌≡◌, ⊤, ℕ, Bool, false, ◌&&◌, not, List, IsTrue, Option, None, Result, Ok, Err, filter, fold}
use Rattle.cf_tree.specs.Keys.{bytes_lt}
use Rattle.cf_desired.specs.declared.wanted.Wanted.{Wanted}
use Rattle.cf_effect.specs.Status.{goes_forward}
use Rattle.cf_effect.specs.World.{StackState}
use Rattle.cf_plan.specs.Forward.{IsDone, plan_before}
use Rattle.cf_prepare.specs.Answer.{TestsAs}
use Rattle.cf_tree.specs.Lists.{In, is_among, least_by}
use Rattle.cf_prepare.specs.Refusals.{is_unknown_type}
use Rattle.cf_prepare.specs.declared.wish.Order.{Order}
use Rattle.cf_prepare.specs.declared.wish.Order.TheVariants as order
use Rattle.cf_prepare.specs.declared.wish.PrepareFault.{PrepareFault}
use Rattle.cf_prepare.specs.declared.wish.PrepareFault.TheVariants as fault

-- the operation can't do this path
abbrev pub IsStuck : List (List ℕ) → StackState → Wanted → Type 0
IsStuck kinds s w = IsTrue (goes_forward s.status) × In w (plan_before s).wanted × (IsDone s w.path → ⊥) × IsTrue (is_unknown_type kinds w)

-- the first such path in byte order
abbrev pub IsFirstStuck : List (List ℕ) → StackState → List ℕ → List ℕ → Type 0
IsFirstStuck kinds s path name =
    (w : Wanted) × IsStuck kinds s w × (path ≡ w.path) × (name ≡ w.kind) × ((v : Wanted) → IsStuck kinds s v → bytes_lt v.path path ≡ false)

-- the operation goes on, where the stack is not refused and nothing is stuck
abbrev pub ResumesAs : Option PrepareFault → List (List ℕ) → StackState → Result Order PrepareFault → Type 0
ResumesAs o kinds s (Ok r) = (o ≡ None) × ((w : Wanted) → IsStuck kinds s w → ⊥) × (r ≡ order.Resume s.operation)
ResumesAs o kinds s (Err (fault.UnknownType path name)) = (o ≡ None) × IsFirstStuck kinds s path name
ResumesAs o kinds s (Err f) = TestsAs {A = Order} o (λ r. ⊤) (Err f)

-- the same of a test of what is stuck
abbrev pub IsNotStuck : {A : Type 0} → List (List ℕ) → StackState → Result A PrepareFault → Type 0
IsNotStuck kinds s (Ok u) = (w : Wanted) → IsStuck kinds s w → ⊥
IsNotStuck kinds s (Err fault.NoMemory) = ⊤
IsNotStuck kinds s (Err (fault.UnknownType path name)) = IsFirstStuck kinds s path name
IsNotStuck kinds s (Err f) = ⊥

-- among what is wanted and still to be done
abbrev pub is_stuck : List (List ℕ) → List (List ℕ) → Wanted → Bool
is_stuck kinds done w = is_unknown_type kinds w && not (is_among w.path done)

abbrev pub first_stuck : List (List ℕ) → List (List ℕ) → List Wanted → Option Wanted
first_stuck kinds done ws = fold (least_by (λ w. w.path)) None (filter (is_stuck kinds done) ws)
