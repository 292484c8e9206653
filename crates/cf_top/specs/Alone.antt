-- What the words of a command come to for `alone` (the answers are this project's own).
use Rattle.std.specs.Prelude.{◌≡◌, ◌≢◌, ◌⊎◌, ℕ, List, [], ◌∷◌, ◌++◌, map, slice_index_or, take, Option, Some, None, Result, Err, option_map, ⊤}
use Rattle.std.specs.Io.KnownBytes.{Appends}
use Rattle.cf_tree.specs.Counts.{HasRisen}
use Rattle.cf_disk.specs.declared.disk.Disk.{Ghosts as DiskGhosts}
use Rattle.cf_handler.specs.declared.handler.Handler.{Ghosts as HandlerGhosts}
use Rattle.cf_entry.specs.declared.entry.Entry.{Entry}
use Rattle.cf_io.specs.Library.{Texts, text_named}
use Rattle.cf_schema.specs.declared.described.Schema.{Schema}
use Rattle.cf_effect.specs.World.{StackState, World, known_stack}
use Rattle.cf_effect.specs.declared.held.KeptSet.{KeptSet}
use Rattle.cf_plan.specs.Follow.{lane_kinds}
use Rattle.cf_prepare.specs.Refusals.{continue_refusal, execute_refusal, proposed_changes, resume_refusal, set_of, set_refusal}
use Rattle.cf_prepare.specs.Resuming.{IsFirstStuck}
use Rattle.cf_book.specs.Entering.{opened_over}
use Rattle.cf_book.specs.Fences.{handed_in}
use Rattle.cf_book.specs.Record.{world_left}
use Rattle.cf_book.specs.State.{at_home}
use Rattle.cf_face.specs.Exit.{ending_text}
use Rattle.cf_face.specs.Words.{load_choice}
use Rattle.cf_face.specs.declared.exit.Exit.{Exit}
use Rattle.cf_face.specs.declared.exit.Exit.TheVariants as exit
use Rattle.cf_face.specs.declared.exit.Refusal.TheVariants as refusal
use Rattle.cf_face.specs.declared.exit.StackFault.TheVariants.{Outdated}
use Rattle.cf_face.specs.declared.words.Choice.{Choice}
use Rattle.cf_face.specs.declared.words.Task.{Task}
use Rattle.cf_face.specs.declared.words.Task.TheVariants as task
use Rattle.cf_top.specs.Ends.{EndsWithoutFailure, HasEnded}
use Rattle.cf_top.specs.Opening.{Holds}
use Rattle.cf_top.specs.Outside.{CameTo, NothingTouched, Outside, Printed, Printing}
use Rattle.cf_workers.specs.Ordering.{schemas_in}
use Rattle.cf_top.specs.Refusals.{deployment_refusal, exit_of_fault}
use Rattle.cf_top.specs.Tasks.{load_texts, status_refusal, task_words}
use Rattle.cf_top.specs.Telling.{outcome_text}

-- the counts of faults of handlers
abbrev pub counts_of : {H : Type 0} → HandlerGhosts H → List H → List ℕ
counts_of h handlers = map (λ l. l.count) (handed_in h handlers)

-- what the words come to: they say nothing that is known, memory is short, or they are a task
abbrev pub Comes : {D H : Type 0} → DiskGhosts D → HandlerGhosts H → Outside D H → List (List ℕ) → List ℕ → Task → Result StackState Exit
    → Type 0
Comes g h m words stack t outcome =
    ((outcome ≡ Err exit.BadWords) × (task_words words ≡ None) × NothingTouched m)
    ⊎ (((outcome ≡ Err exit.NoMemory) × NothingTouched m)
    ⊎ ((task_words words ≡ Some (stack, t)) × CameTo g h m stack t outcome))

-- all of it: the words come to something, and that is printed and answered
abbrev pub AloneTells : {D H : Type 0} → DiskGhosts D → HandlerGhosts H → Outside D H → Printing → List (List ℕ) → Exit → Type 0
AloneTells g h m p words result =
    (stack : List ℕ) × (t : Task) × (outcome : Result StackState Exit) × Comes g h m words stack t outcome
    × Printed p stack t outcome result

-- a task came to this exit before its operation ended, or before it began, and that was printed
pub record EndsEarly {D H : Type 0} (g : DiskGhosts D) (h : HandlerGhosts H) (m : Outside D H) (p : Printing) (words : List (List ℕ))
    (e : Exit) : Type 0 where
  pub name : List ℕ
  pub what : Task
  pub said : task_words words ≡ Some (name, what)
  pub ran : CameTo g h m name what (Err e)
  pub printed : Appends p.held p.held' (ending_text e)

-- the words come to something, of which a prefix was printed
pub record IsCutShort {D H : Type 0} (g : DiskGhosts D) (h : HandlerGhosts H) (m : Outside D H) (p : Printing) (words : List (List ℕ))
    : Type 0 where
  pub stack : List ℕ
  pub what : Task
  pub outcome : Result StackState Exit
  pub length : ℕ
  pub comes : Comes g h m words stack what outcome
  pub printed : Appends p.held p.held' (take length (outcome_text stack what outcome))

-- What each answer says. Those that a task ends with before its operation's end have their cause in `CameTo`, by cases on the exit.
abbrev pub Says : {D H : Type 0} → DiskGhosts D → HandlerGhosts H → Outside D H → Printing → List (List ℕ) → Exit → Type 0
Says g h m p words exit.Done = HasEnded g h m p words exit.Done
Says g h m p words (exit.RolledBack cause) = HasEnded g h m p words (exit.RolledBack cause)
Says g h m p words (exit.Failed blamed) = HasEnded g h m p words (exit.Failed blamed)
Says g h m p words exit.BadWords = (task_words words ≡ None) × NothingTouched m × Appends p.held p.held' (ending_text exit.BadWords)
Says g h m p words exit.SinkFault = HasRisen p.faults p.faults' × IsCutShort g h m p words
Says g h m p words exit.NoMemory = IsCutShort g h m p words
Says g h m p words e = EndsEarly g h m p words e

-- the answer is one of these
abbrev pub IsExitOf : Exit → List Exit → Type 0
IsExitOf e [] = ⊥
IsExitOf e (x ∷ xs) = (e ≡ x) ⊎ IsExitOf e xs

-- the count of the lane at a place rose
abbrev pub RoseAt : ℕ → List ℕ → List ℕ → Type 0
RoseAt k before after = HasRisen (slice_index_or before k 0) (slice_index_or after k 0)

-- no count of faults rose, where one at its last value counts as risen
pub record NoCountRose {D H : Type 0} (g : DiskGhosts D) (h : HandlerGhosts H) (m : Outside D H) (p : Printing) : Type 0 where
  pub library : HasRisen m.library.faults m.library.faults' → ⊥
  pub disk : HasRisen (g.count m.disk) (g.count m.disk') → ⊥
  pub sink : HasRisen p.faults p.faults' → ⊥
  pub lanes : (k : ℕ) → RoseAt k (counts_of h m.handlers) (counts_of h m.handlers') → ⊥

-- a command is refused by what it is given, not by a fault
abbrev pub IsRefusal : Exit → Type 0
IsRefusal (exit.TemplateRefused fault) = ⊤
IsRefusal (exit.StackRefused fault) = ⊤
IsRefusal (exit.NotAJournal offset) = ⊤
IsRefusal (exit.LaneMissing name) = ⊤
IsRefusal (exit.LaneTwice name) = ⊤
IsRefusal (exit.LaneAhead name fence epoch) = ⊤
IsRefusal (exit.Full length need room) = ⊤
IsRefusal _ = ⊥

-- an answer that may stand in the place of a refusal: what comes before it, and what may come at any time
abbrev pub ComesBefore : Exit → Type 0
ComesBefore exit.LibraryFault = ⊤
ComesBefore exit.DiskFault = ⊤
ComesBefore exit.SinkFault = ⊤
ComesBefore exit.NoMemory = ⊤
ComesBefore (exit.NotAJournal offset) = ⊤
ComesBefore (exit.LaneMissing name) = ⊤
ComesBefore (exit.LaneTwice name) = ⊤
ComesBefore (exit.LaneAhead name fence epoch) = ⊤
ComesBefore (exit.LaneFault name) = ⊤
ComesBefore (exit.Full length need room) = ⊤
ComesBefore _ = ⊥

-- the world that a journal with these entries leaves, with the opening over the handlers
abbrev pub opened_world : {H : Type 0} → HandlerGhosts H → List H → List Entry → World
opened_world h handlers es = world_left (es ++ opened_over (handed_in h handlers) es ∷ [])

-- Why a change set is not executed: there is none, or none may be from the stack's status; for its source; or since that changes other
-- rows by now.
abbrev pub IsSetRefused : List Schema → World → List ℕ → ℕ → KeptSet → Exit → Type 0
IsSetRefused schemas x name number set e =
    (option_map exit_of_fault (execute_refusal schemas x name set.source) ≡ Some e)
    ⊎ ((execute_refusal schemas x name set.source ≡ None) × ((proposed_changes schemas x name set.source).rows ≢ set.rows)
    × (e ≡ exit.StackRefused (Outdated number)))

abbrev pub IsExecutionRefused : List Schema → World → List ℕ → ℕ → Exit → Type 0
IsExecutionRefused schemas x name number e =
    (option_map exit_of_fault (set_refusal x name number) ≡ Some e)
    ⊎ ((set_refusal x name number ≡ None) × (set : KeptSet) × (set_of number (known_stack name x) ≡ Some set)
    × IsSetRefused schemas x name number set e)

-- Why a task is refused: a deployment for its stack's status, or else for what is found under the template's name in a library that tells
-- its texts, and a load for what its template is; an operation in progress also at its first path of a type that no lane has; an execution
-- as above.
abbrev pub IsDeploymentRefused : Option Texts → List Schema → World → List ℕ → Choice → Exit → Type 0
IsDeploymentRefused o schemas x name choice e =
    (status_refusal name x ≡ Some e)
    ⊎ ((status_refusal name x ≡ None) × (texts : Texts) × (o ≡ Some texts)
    × (deployment_refusal schemas x name choice (text_named choice.template texts) ≡ Some e))

abbrev pub IsRefusedAs : Option Texts → List Schema → World → List ℕ → Task → Exit → Type 0
IsRefusedAs o schemas x name (task.Deploy choice) e = IsDeploymentRefused o schemas x name choice e
IsRefusedAs o schemas x name (task.Load count) e = IsDeploymentRefused (Some (load_texts count)) schemas x name (load_choice count) e
IsRefusedAs o schemas x name (task.Execute number) e = IsExecutionRefused schemas x name number e
IsRefusedAs o schemas x name (task.Continue paths) e = option_map exit_of_fault (continue_refusal x name paths) ≡ Some e
IsRefusedAs o schemas x name task.Resume (exit.TemplateRefused (refusal.UnknownType path kind)) =
    (resume_refusal x name ≡ None) × IsFirstStuck (lane_kinds x) (known_stack name x) path kind
IsRefusedAs o schemas x name task.Resume e = option_map exit_of_fault (resume_refusal x name) ≡ Some e

-- it is refused so whatever entries the disk may have
abbrev pub IsRefusedOver : {D H : Type 0} → DiskGhosts D → HandlerGhosts H → Outside D H → List ℕ → Task → Exit → Type 0
IsRefusedOver g h m name t e =
    (es : List Entry) → Holds g.tells (g.seen m.disk) es
    → IsRefusedAs m.library.texts (schemas_in (map at_home (handed_in h m.handlers))) (opened_world h m.handlers es) name t e

-- what holds of each answer, and when each may come
pub record IsAnswered {D H : Type 0} (g : DiskGhosts D) (h : HandlerGhosts H) (m : Outside D H) (p : Printing) (words : List (List ℕ))
    (result : Exit) : Type 0 where
  -- what was done and printed, and the cause
  pub says : Says g h m p words result
  -- where the words are no task, BadWords comes, unless it can't be printed
  pub no_task : task_words words ≡ None → IsExitOf result (exit.BadWords ∷ exit.SinkFault ∷ exit.NoMemory ∷ [])
  -- a task that is not refused drives its operation to its end where no count rose, and then no call failed and none is blamed
  pub otherwise :
      (said : List ℕ × Task) → task_words words ≡ Some said → NoCountRose g h m p
      → EndsWithoutFailure g h m p words result ⊎ ((result ≡ exit.NoMemory) ⊎ IsRefusal result)
  -- where the task is refused for its stack or for what is found in the library, that refusal comes, or what comes before it
  pub refuses :
      (name : List ℕ) (t : Task) (e : Exit) → task_words words ≡ Some (name, t) → IsRefusedOver g h m name t e
      → (result ≡ e) ⊎ ComesBefore result
