-- What stands at the ends of some of the runs: the lanes hold what the statuses promise (this project's own).
use Rattle.std.specs.Prelude.{ℕ, List, [], ◌∷◌, codes}
use Rattle.cf_tree.specs.declared.request.Request.TheVariants as request
use Rattle.cf_handler.specs.declared.settled.Settled.{Settled}
use Rattle.cf_handler.specs.declared.settled.Settlement.{Settlement}
use Rattle.cf_handler.specs.declared.settled.Settlement.TheVariants as settlement
use Rattle.cf_tree.specs.declared.request.Request.{Request}
use Rattle.cf_effect.specs.World.{World, empty_world, known_stack}
use Rattle.cf_effect.specs.Fold.{fold_of}
use Rattle.cf_plan.specs.Lanes.{Lane}
use Rattle.cf_plan.specs.Promise.{Promised}
use Rattle.cf_examples.specs.Given.{file, note, file_props, file_attrs, note_props, note_attrs, lane_with}
use Rattle.cf_examples.specs.Replacement as replacement
use Rattle.cf_examples.specs.LateEffect as late
use Rattle.cf_examples.specs.RolledBack as rolled
use Rattle.cf_examples.specs.RollbackFailed as unrolled
use Rattle.cf_examples.specs.Retained as retained
use Rattle.cf_examples.specs.Skipped as skipped
use Rattle.cf_examples.specs.LostCreation as lost

-- a settled call
abbrev pub call : ℕ → Request → Settlement → Settled
call token r s = record { token = token; request = r; settlement = s }

-- the lanes after the replacement: the old file is gone, and the record has the new id
abbrev pub files_replaced : Lane
files_replaced =
    lane_with (codes "f1") file
    (call 1 (request.Create file (file_props (codes "web.txt") (codes "x")))
    (settlement.Success (codes "f1:1") (file_attrs (codes "f1:1") 1 (codes "web.txt") (codes "x")))
    ∷ call 3 (request.Create file (file_props (codes "new.txt") (codes "x")))
    (settlement.Success (codes "f1:3") (file_attrs (codes "f1:3") 1 (codes "new.txt") (codes "x")))
    ∷ call 5 (request.Delete (codes "f1:1")) (settlement.Success (codes "f1:1") []) ∷ []) [] 1

abbrev pub notes_replaced : Lane
notes_replaced =
    lane_with (codes "r1") note
    (call 2 (request.Create note (note_props (codes "p") (codes "f1:1")))
    (settlement.Success (codes "r1:2") (note_attrs (codes "r1:2") 4 (codes "p") (codes "f1:1")))
    ∷ call 4 (request.Update (codes "r1:2") (note_props (codes "p") (codes "f1:3")))
    (settlement.Success (codes "r1:2") (note_attrs (codes "r1:2") 4 (codes "p") (codes "f1:3"))) ∷ []) [] 1

abbrev pub lanes_replaced : List Lane
lanes_replaced = files_replaced ∷ notes_replaced ∷ []

-- the lane after the update that acted late and was taken back
abbrev pub files_restored : Lane
files_restored =
    lane_with (codes "f1") file
    (call 1 (request.Create file (file_props (codes "a") (codes "x")))
    (settlement.Success (codes "f1:1") (file_attrs (codes "f1:1") 1 (codes "a") (codes "x")))
    ∷ call 2 (request.Update (codes "f1:1") (file_props (codes "a") (codes "y")))
    (settlement.Success (codes "f1:1") (file_attrs (codes "f1:1") 1 (codes "a") (codes "y")))
    ∷ call 3 (request.Update (codes "f1:1") (file_props (codes "a") (codes "x")))
    (settlement.Success (codes "f1:1") (file_attrs (codes "f1:1") 1 (codes "a") (codes "x"))) ∷ []) [] 1

abbrev pub lanes_restored : List Lane
lanes_restored = files_restored ∷ []

-- the stack of a name is what its status promises, over these lanes
abbrev pub IsPromised : List ℕ → World → List Lane → Type 0
IsPromised name x lanes = Promised (known_stack name x).status name x (known_stack name x) lanes

abbrev pub ReplacementIsComplete : Type 0
ReplacementIsComplete = IsPromised (codes "app") (fold_of empty_world replacement.run) lanes_replaced

abbrev pub LateEffectIsRestored : Type 0
LateEffectIsRestored = IsPromised (codes "s") (fold_of empty_world late.run) lanes_restored

abbrev pub RollbackIsRestored : Type 0
RollbackIsRestored = IsPromised (codes "s") (fold_of empty_world rolled.run) []

abbrev pub DeletionIsCleared : Type 0
DeletionIsCleared = IsPromised (codes "s") (fold_of empty_world retained.run) []

abbrev pub FailuresAreBlamed : Type 0
FailuresAreBlamed = IsPromised (codes "s") (fold_of empty_world unrolled.run) []

abbrev pub FailedRollbackIsBlamed : Type 0
FailedRollbackIsBlamed = IsPromised (codes "s") (fold_of empty_world skipped.until_failed) []

abbrev pub FailedDeletionIsBlamed : Type 0
FailedDeletionIsBlamed = IsPromised (codes "s") (fold_of empty_world lost.until_undeleted) []
