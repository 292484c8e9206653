-- The calls that a command makes, each with its Intent in the journal, and how many (the handler contract of the CloudFormation registry: a call whose
-- outcome is not known is made again under its token, so a journal has to have it before it is made; the journal is this project's own,
-- docs/JOURNAL.md).
use Rattle.std.specs.Prelude.{◌≡◌, ℕ, List, [], IsTrue, map}
use Rattle.cf_tree.specs.Lists.{In}
use Rattle.cf_disk.specs.declared.disk.Disk.{Ghosts as DiskGhosts}
use Rattle.cf_handler.specs.declared.handler.Handler.{Ghosts as HandlerGhosts}
use Rattle.cf_lane.specs.Lanes.{LaneNow}
use Rattle.cf_plan.specs.Lanes.{Lane}
use Rattle.cf_schema.specs.declared.described.Schema.{Schema}
use Rattle.cf_book.specs.Fences.{handed_in}
use Rattle.cf_workers.specs.Agreement.{Agree}
use Rattle.cf_workers.specs.Counting.{AreFew}
use Rattle.cf_workers.specs.Driving.{CallAt, calls_on}
use Rattle.cf_workers.specs.Intending.{AreAfterCalls, IsIntendedIn, without_log}
use Rattle.cf_face.specs.declared.exit.Exit.{Exit}
use Rattle.cf_face.specs.declared.exit.Exit.TheVariants as exit
use Rattle.cf_top.specs.Foretold.{IsToldBySet}

-- with these answers no lane was called
abbrev pub CallsNoLane : Exit → Type 0
CallsNoLane exit.BadWords = Unit {0}
CallsNoLane exit.LibraryFault = Unit {0}
CallsNoLane (exit.TemplateRefused fault) = Unit {0}
CallsNoLane (exit.StackRefused fault) = Unit {0}
CallsNoLane (exit.NotAJournal offset) = Unit {0}
CallsNoLane (exit.LaneMissing name) = Unit {0}
CallsNoLane (exit.LaneTwice name) = Unit {0}
CallsNoLane (exit.LaneFault name) = Unit {0}
CallsNoLane _ = ⊥

-- All that a command with this answer did to its lanes: as they are given back, but for the logs, they come of those that were handed in by
-- their fences and by the calls in their logs. These are its calls, each of a path: of each the Intent was there, and stays; and they are
-- few, and told by the change set that the words execute, where disk and lanes agreed.
pub record CallsAreIntended {D H : Type 0} (g : DiskGhosts D) (h : HandlerGhosts H) (disk disk' : D) (handlers handlers' : List H)
    (words : List (List ℕ)) (e : Exit) : Type 0 where
  pub lanes : List LaneNow
  pub given_back : map without_log lanes ≡ handed_in h handlers'
  pub called : AreAfterCalls (handed_in h handlers) lanes
  pub calls : List CallAt
  pub logs : (l : LaneNow) → In l lanes → l.log ≡ calls_on l.name calls
  pub on : (c : CallAt) → In c calls → In c.lane (map (λ l. l.name) lanes)
  pub each : (c : CallAt) → In c calls → IsIntendedIn g disk disk' c
  pub few : IsTrue g.tells → (schemas : List Schema) (all : List Lane) → Agree g h schemas disk handlers all → AreFew calls
  pub told : IsTrue g.tells → (schemas : List Schema) (all : List Lane) → Agree g h schemas disk handlers all → (c : CallAt) (i : In c calls)
      → IsToldBySet g disk words c (each c i).lent.entries
  pub none : CallsNoLane e → (l : LaneNow) → In l lanes → l.log ≡ []
