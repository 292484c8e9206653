-- What is known of the paths of an operation in its forward phase, as code has it (this project's own).
use Rattle.std.specs.Prelude.{◌≡◌, ◌↔◌, IsTrue, List}
use Rattle.cf_schema.specs.declared.described.Schema.{Schema}
use Rattle.cf_effect.specs.World.{StackState}
use Rattle.cf_plan.specs.Forward.{AllDone}
use Rattle.cf_plan.specs.PathStates.{AreStatesOf, are_enough, done_by_places}
use Rattle.cf_plan.specs.Starts.{AreRequests}
use Rattle.cf_plan.specs.declared.overview.Overview.{Overview}
use Rattle.cf_plan.specs.declared.overview.Overview.TheVariants as overview

-- Read off what the stack keeps, which is enough; or worked out anew: what may begin, and whether all is done.
abbrev pub IsOverview : List Schema → StackState → Overview → Type 0
IsOverview schemas s (overview.Kept states done) =
    AreStatesOf s states.items × (done.items ≡ done_by_places states.items) × IsTrue (are_enough done.items states.items)
IsOverview schemas s (overview.Anew starts is_done) = AreRequests schemas s starts × (IsTrue is_done ↔ AllDone s)
