-- What a command tells of a stack, and of all stacks (this project's own).
use Rattle.std.specs.Prelude.{ℕ, List, Option, Some, None, Result, Ok, Err, if◌then◌else◌}
use Rattle.cf_entry.specs.declared.status.Status.{Status}
use Rattle.cf_entry.specs.declared.status.Status.TheVariants as status
use Rattle.cf_effect.specs.World.{StackState, World, stack_at}
use Rattle.cf_effect.specs.declared.held.KeptSet.{KeptSet}
use Rattle.cf_prepare.specs.Refusals.{set_of}
use Rattle.cf_plan.specs.Follow.{failed_of}
use Rattle.cf_core.specs.Turned.{was_continued}
use Rattle.cf_face.specs.declared.exit.Exit.{Exit}
use Rattle.cf_face.specs.declared.exit.Exit.TheVariants as exit
use Rattle.cf_face.specs.declared.exit.StackFault.TheVariants.{NoChangeSet, NoStack}
use Rattle.cf_face.specs.Exit.{ending_text}
use Rattle.cf_face.specs.Report.{events_report, list_report, load_report, stack_report}
use Rattle.cf_face.specs.SetReport.{set_report}
use Rattle.cf_face.specs.declared.words.Subject.{Subject}
use Rattle.cf_face.specs.declared.words.Subject.TheVariants as subject
use Rattle.cf_face.specs.declared.words.Task.{Task}
use Rattle.cf_face.specs.declared.words.Task.TheVariants as task
use Rattle.cf_workers.specs.Turning.{cause_of}

-- A rollback that was continued has done what was asked; any other one tells why the operation turned back.
abbrev pub exit_back : StackState → Exit
exit_back s = if was_continued s then exit.Done else exit.RolledBack (cause_of s)

-- how an operation ended, by its stack's status
abbrev pub exit_by : StackState → Status → Exit
exit_by s status.CreateComplete = exit.Done
exit_by s status.UpdateComplete = exit.Done
exit_by s status.DeleteComplete = exit.Done
exit_by s status.RollbackComplete = exit_back s
exit_by s status.UpdateRollbackComplete = exit_back s
exit_by s _ = exit.Failed (failed_of s)

abbrev pub exit_for : StackState → Exit
exit_for s = exit_by s s.status

-- the report of a task on the stack that it left: that of a load is short
abbrev pub task_report : Task → List ℕ → StackState → Exit → List ℕ
task_report (task.Load count) name st e = load_report count name st e
task_report _ name st e = stack_report name st e

-- the stack that an operation left is reported with its exit; of every other end what says it is printed alone
abbrev pub outcome_text : List ℕ → Task → Result StackState Exit → List ℕ
outcome_text name t (Ok st) = task_report t name st (exit_for st)
outcome_text name t (Err e) = ending_text e

abbrev pub outcome_exit : Result StackState Exit → Exit
outcome_exit (Ok st) = exit_for st
outcome_exit (Err e) = e

-- a description reports a stack that is there
abbrev pub described_text : List ℕ → Option StackState → List ℕ
described_text name (Some st) = stack_report name st exit.Done
described_text name None = ending_text (exit.StackRefused NoStack)

abbrev pub described_exit : Option StackState → Exit
described_exit (Some st) = exit.Done
described_exit None = exit.StackRefused NoStack

-- so do its events
abbrev pub events_text : Option StackState → List ℕ
events_text (Some st) = events_report st exit.Done
events_text None = ending_text (exit.StackRefused NoStack)

-- and one of its change sets, if it has one of the number
abbrev pub kept_text : List ℕ → ℕ → Option KeptSet → List ℕ
kept_text name number (Some k) = set_report name number k.rows k.outputs exit.Done
kept_text name number None = ending_text (exit.StackRefused (NoChangeSet number))

abbrev pub kept_exit : ℕ → Option KeptSet → Exit
kept_exit number (Some k) = exit.Done
kept_exit number None = exit.StackRefused (NoChangeSet number)

abbrev pub set_text : List ℕ → ℕ → Option StackState → List ℕ
set_text name number (Some st) = kept_text name number (set_of number st)
set_text name number None = ending_text (exit.StackRefused NoStack)

abbrev pub set_exit : ℕ → Option StackState → Exit
set_exit number (Some st) = kept_exit number (set_of number st)
set_exit number None = exit.StackRefused NoStack

-- what is told of a subject over a world, and the exit
abbrev pub subject_text : Subject → World → List ℕ
subject_text (subject.Stack name) x = described_text name (stack_at name x)
subject_text (subject.Events name) x = events_text (stack_at name x)
subject_text subject.Stacks x = list_report x.stacks exit.Done
subject_text (subject.Set name number) x = set_text name number (stack_at name x)

abbrev pub subject_exit : Subject → World → Exit
subject_exit (subject.Stack name) x = described_exit (stack_at name x)
subject_exit (subject.Events name) x = described_exit (stack_at name x)
subject_exit subject.Stacks x = exit.Done
subject_exit (subject.Set name number) x = set_exit number (stack_at name x)
