-- The step that is taken of those that may start (this project's own).
use Rattle.std.specs.Prelude.{◌≡◌, ◌↔◌, ℕ, List, [], Option, Some, Result, Ok, Err, IsTrue}
use Rattle.cf_schema.specs.declared.described.Schema.{Schema}
use Rattle.cf_effect.specs.World.{StackState, World}
use Rattle.cf_effect.specs.Status.{Stage, stage_of}
use Rattle.cf_plan.specs.Follow.{none_in_flight}
use Rattle.cf_next.specs.declared.chosen.NextFault.{NextFault}
use Rattle.cf_next.specs.declared.chosen.NextFault.TheVariants.{NoMemory, NoStep}
use Rattle.cf_next.specs.declared.step.Next.{Next}
use Rattle.cf_next.specs.Chosen.{IsChosen, MayStart}
use Rattle.cf_next.specs.Joining.{IsLast}

-- on the stack of the operation, whichever its stage, the chosen step is taken, or none may start and no lease is out
abbrev pub Chooses : List Schema → List ℕ → World → List ℕ → StackState → Result Next NextFault → Type 0
Chooses schemas name x out s (Ok n) = (stage : Stage) → stage_of s.status ≡ Some stage → IsChosen schemas name x out s stage n
Chooses schemas name x out s (Err NoStep) =
    (out ≡ []) × ((stage : Stage) → stage_of s.status ≡ Some stage → (n : Next) → MayStart schemas name x out s stage n → ⊥)
Chooses schemas name x out s (Err NoMemory) = Unit {0}

-- this is the phase or the end that may come, once no call of the stack is out
abbrev pub IsLastOn : List Schema → List ℕ → World → List ℕ → StackState → Option Next → Type 0
IsLastOn schemas name x out s last =
    (stage : Stage) → stage_of s.status ≡ Some stage
    → (n : Next) → (IsTrue (none_in_flight out s) × IsLast schemas name x s stage n) ↔ (last ≡ Some n)
