-- What a command asks of a stack, what it orders, and why it is refused before anything is written (the order is this project's own; from
-- which status what may begin is that of the User Guide: stack status codes).
use Rattle.std.specs.Prelude.{◌≡◌, ℕ, ◌+◌, ◌<◌, ◌≤◌, List, [], ◌∷◌, Option, Some, None, Result, Ok, Err, IsTrue, option_map}
use Rattle.std.specs.Option.{option_and_then}
use Rattle.cf_schema.specs.declared.described.Schema.{Schema}
use Rattle.cf_stacks.specs.Apart.{AreApart}
use Rattle.cf_io.specs.Library.{StandsUnder, Texts}
use Rattle.cf_load.specs.Text.{load_text}
use Rattle.cf_effect.specs.World.{World, known_stack}
use Rattle.cf_effect.specs.declared.held.KeptSet.{KeptSet}
use Rattle.cf_tree.specs.declared.source.Source.{Source}
use Rattle.cf_plan.specs.Follow.{deploys_from, is_opened_since, lane_kinds}
use Rattle.cf_prepare.specs.Orders.{IsContinuation, IsDeployment, IsReview}
use Rattle.cf_prepare.specs.Prepare.{OrderFollows, PreparesAs}
use Rattle.cf_prepare.specs.Refusals.{continue_refusal, execute_refusal, if_barred, proposed_changes, resume_refusal, set_of, set_refusal}
use Rattle.cf_prepare.specs.Resuming.{ResumesAs}
use Rattle.cf_prepare.specs.declared.wish.Order.{Order}
use Rattle.cf_prepare.specs.declared.wish.Order.TheVariants as order
use Rattle.cf_prepare.specs.declared.wish.PrepareFault.{PrepareFault}
use Rattle.cf_prepare.specs.declared.wish.Wish.{Wish}
use Rattle.cf_prepare.specs.declared.wish.Wish.TheVariants as wish
use Rattle.cf_book.specs.Beginning.{IsPrepared}
use Rattle.cf_face.specs.Words.{command_of, load_choice, load_name, task_of}
use Rattle.cf_face.specs.declared.exit.Exit.{Exit}
use Rattle.cf_face.specs.declared.exit.Exit.TheVariants as exit
use Rattle.cf_face.specs.declared.words.Choice.{Choice}
use Rattle.cf_face.specs.declared.words.Task.{Task}
use Rattle.cf_face.specs.declared.words.Task.TheVariants as task
use Rattle.cf_workers.specs.Ordering.{IsOrderOn}
use Rattle.cf_top.specs.Refusals.{IsRefusedFor, IsUnasked, LibraryUse, RefusesChoice, chosen_refusal, deployed_source, deployment_refusal, exit_of_fault}
use Rattle.cf_top.specs.declared.planning.Purpose.{Purpose}
use Rattle.cf_top.specs.declared.planning.Purpose.TheVariants as purpose

-- the stack that the words say to change and what is to be done with it, if that is what they say
abbrev pub task_words : List (List ℕ) → Option (List ℕ × Task)
task_words words = option_and_then task_of (command_of words)

-- A load is a deployment by the template of the load mode, without the library: as if over a library that holds that template alone, under
-- its name, and never fails (this project's own).
abbrev pub load_texts : ℕ → Texts
load_texts count = (load_name count, load_text count) ∷ []

abbrev pub load_library : ℕ → LibraryUse
load_library count = record { texts = Some (load_texts count); faults = 0; faults' = 0; misses = 0; misses' = 0 }

-- that template is there for 1 to 500 records
abbrev pub IsLoadable : Task → Type 0
IsLoadable (task.Load count) = (1 ≤ count) × (count ≤ 500)
IsLoadable _ = Unit {0}

-- A deployment is refused for its stack's status before the library is asked; the other tasks for theirs with all else.
abbrev pub status_refusal : List ℕ → World → Option Exit
status_refusal name x = option_map exit_of_fault (if_barred deploys_from (known_stack name x))

abbrev pub early_refusal : List ℕ → World → Task → Option Exit
early_refusal name x (task.Deploy choice) = status_refusal name x
early_refusal name x (task.Load count) = status_refusal name x
early_refusal name x _ = None

-- Why nothing was done.
abbrev pub RefusesWish : List Schema → World → Wish → Exit → Type 0
RefusesWish schemas x w e = (f : PrepareFault) × PreparesAs schemas x w (Err f) × (e ≡ exit_of_fault f)

abbrev pub RefusesTask : LibraryUse → List Schema → World → List ℕ → Task → Exit → Type 0
RefusesTask o schemas x name (task.Deploy choice) e = RefusesChoice o purpose.Deploy schemas x name choice (status_refusal name x) e
RefusesTask o schemas x name (task.Continue paths) e = RefusesWish schemas x (wish.Continue name paths) e × IsUnasked o
RefusesTask o schemas x name task.Resume e = RefusesWish schemas x (wish.Resume name) e × IsUnasked o
RefusesTask o schemas x name (task.Execute number) e = RefusesWish schemas x (wish.Execute name number) e × IsUnasked o
RefusesTask o schemas x name (task.Load count) e =
    RefusesChoice (load_library count) purpose.Deploy schemas x name (load_choice count) (status_refusal name x) e × IsUnasked o

-- What is ordered where nothing is refused: the beginning of a creation or an update by the template that is found in the library, or that
-- of the load mode, with just the exports of other stacks that it uses; that of a continued rollback, which skips the paths that are named;
-- the operation in progress; or the beginning of a creation or an update by the source of a change set, whose rows are still what that
-- changes.
pub record DeploysBy (o : LibraryUse) (schemas : List Schema) (x : World) (name : List ℕ) (choice : Choice) (ordered : Order) : Type 0 where
  pub free : status_refusal name x ≡ None
  pub bytes : List ℕ
  pub stands : StandsUnder o.texts choice.template (Some bytes)
  pub sound : deployment_refusal schemas x name choice (Some bytes) ≡ None
  pub deploys : IsDeployment schemas x name (deployed_source name choice bytes) ordered

pub record ExecutesBy (schemas : List Schema) (x : World) (name : List ℕ) (number : ℕ) (ordered : Order) : Type 0 where
  pub free : set_refusal x name number ≡ None
  pub set : KeptSet
  pub kept : set_of number (known_stack name x) ≡ Some set
  pub sound : execute_refusal schemas x name set.source ≡ None
  pub same_rows : (proposed_changes schemas x name set.source).rows ≡ set.rows
  pub deploys : IsDeployment schemas x name set.source ordered

abbrev pub OrdersTask : LibraryUse → List Schema → World → List ℕ → Task → Order → Type 0
OrdersTask o schemas x name (task.Deploy choice) ordered = DeploysBy o schemas x name choice ordered
OrdersTask o schemas x name (task.Continue paths) ordered =
    (continue_refusal x name paths ≡ None) × IsContinuation x name paths ordered × IsUnasked o
OrdersTask o schemas x name task.Resume ordered =
    ResumesAs (resume_refusal x name) (lane_kinds x) (known_stack name x) (Ok ordered) × IsUnasked o
OrdersTask o schemas x name (task.Execute number) ordered = ExecutesBy schemas x name number ordered × IsUnasked o
OrdersTask o schemas x name (task.Load count) ordered =
    DeploysBy (load_library count) schemas x name (load_choice count) ordered × IsUnasked o

-- It may be begun, on that stack, and no two operations have one number.
pub record IsOrdered (o : LibraryUse) (schemas : List Schema) (x : World) (name : List ℕ) (t : Task) (ordered : Order) : Type 0 where
  pub apart : AreApart x
  pub orders : OrdersTask o schemas x name t ordered
  pub prepared : IsPrepared schemas x ordered
  pub on_stack : IsOrderOn name x ordered

-- What preparing answers of a wish: what it orders, which may follow, or the exit of what it is refused for.
abbrev pub PreparesWish : List Schema → World → Wish → Result Order Exit → Type 0
PreparesWish schemas x w (Ok ordered) = PreparesAs schemas x w (Ok ordered) × OrderFollows schemas x w ordered
PreparesWish schemas x w (Err e) = RefusesWish schemas x w e

-- An operation goes on that has a number: one of which there may be more, in entries that no run has written, has none.
abbrev pub IsNumbered : Order → Type 0
IsNumbered (order.Resume number) = 0 < number
IsNumbered _ = Unit {0}

abbrev pub GoesOnBy : Order → Result Order Exit → Type 0
GoesOnBy ordered (Ok same) = (same ≡ ordered) × IsNumbered ordered
GoesOnBy ordered (Err e) = e ≡ exit.NoMemory

-- what a deployment or a review of these bytes orders, which may follow
abbrev pub OrdersSource : Purpose → List Schema → World → List ℕ → Source → Order → Type 0
OrdersSource purpose.Deploy schemas x name source ordered =
    IsDeployment schemas x name source ordered × OrderFollows schemas x (wish.Deploy name source) ordered
OrdersSource purpose.Review schemas x name source ordered =
    IsReview schemas x name source ordered × OrderFollows schemas x (wish.Review name source) ordered

abbrev pub IsOrderOf : Purpose → List Schema → World → List ℕ → Choice → List ℕ → Order → Type 0
IsOrderOf p schemas x name choice bytes ordered = OrdersSource p schemas x name (deployed_source name choice bytes) ordered

-- what is found out of a template of the library that is to be deployed or reviewed
pub record OrdersChoice (o : LibraryUse) (p : Purpose) (schemas : List Schema) (x : World) (name : List ℕ) (choice : Choice)
    (ordered : Order) : Type 0 where
  pub bytes : List ℕ
  pub stands : StandsUnder o.texts choice.template (Some bytes)
  pub sound : chosen_refusal p schemas x name choice (Some bytes) ≡ None
  pub is_order : IsOrderOf p schemas x name choice bytes ordered

abbrev pub FindsChoice : LibraryUse → Purpose → List Schema → World → List ℕ → Choice → Result Order Exit → Type 0
FindsChoice o p schemas x name choice (Ok ordered) = OrdersChoice o p schemas x name choice ordered
FindsChoice o p schemas x name choice (Err e) = IsRefusedFor o p schemas x name choice e

-- A rollback goes on only in an opening after the one in which it failed.
abbrev pub IsOpenedFor : World → List ℕ → Task → Type 0
IsOpenedFor x name (task.Continue paths) = IsTrue (is_opened_since (known_stack name x))
IsOpenedFor x name _ = Unit {0}

abbrev pub CanBegin : List Schema → World → List ℕ → Task → Order → Type 0
CanBegin schemas x name t ordered = AreApart x → IsOpenedFor x name t → IsPrepared schemas x ordered × IsOrderOn name x ordered

-- what is found out of a task that is not refused for a status: what it orders, or why it is refused
abbrev pub FindsOrder : LibraryUse → List Schema → World → List ℕ → Task → Result Order Exit → Type 0
FindsOrder o schemas x name t (Ok ordered) = OrdersTask o schemas x name t ordered × CanBegin schemas x name t ordered
FindsOrder o schemas x name t (Err e) = RefusesTask o schemas x name t e

-- the number of the operation that does a task: the next one, or that of the operation in progress
abbrev pub number_for : World → List ℕ → Task → ℕ
number_for x name task.Resume = (known_stack name x).operation
number_for x name _ = x.operation + 1
