-- How far a create has come, as code tells it (this project's own).
use Rattle.std.specs.Prelude.{◌↔◌, ℕ, List, IsTrue}
use Rattle.cf_schema.specs.declared.described.Schema.{Schema}
use Rattle.cf_effect.specs.World.{StackState, World}
use Rattle.cf_plan.specs.Forward.{AllDone, HasFailed, IsCause}
use Rattle.cf_plan.specs.Starts.{AreOpen}
use Rattle.cf_plan.specs.declared.progress.Progress.{Progress}
use Rattle.cf_plan.specs.declared.progress.Progress.TheVariants as progress

-- It has not failed, and just these requests may begin; or it has, for this cause.
abbrev pub IsProgressOf : List Schema → List ℕ → World → StackState → Progress → Type 0
IsProgressOf schemas name x s (progress.Going starts is_done) =
    (¬ HasFailed schemas name x s) × AreOpen schemas s starts × (IsTrue is_done ↔ AllDone s)
IsProgressOf schemas name x s (progress.Failed cause) = HasFailed schemas name x s × IsCause schemas name x s cause
