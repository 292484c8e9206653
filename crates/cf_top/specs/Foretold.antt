-- What a change set tells of the calls by which it is executed (User Guide: change sets, the Action and Replacement of a change; that the
-- rows of the set that was kept tell each call is this project's own).
use Rattle.std.specs.Prelude.{◌≡◌, ℕ, List, Some, Ok, IsTrue}
use Rattle.cf_disk.specs.declared.disk.Disk.{Ghosts as DiskGhosts}
use Rattle.cf_entry.specs.declared.entry.Entry.{Entry}
use Rattle.cf_journal.specs.Record.{record_of}
use Rattle.cf_effect.specs.Status.{goes_forward}
use Rattle.cf_effect.specs.World.{known_stack}
use Rattle.cf_effect.specs.declared.held.KeptSet.{KeptSet}
use Rattle.cf_core.specs.Foretold.{IsTold, row_at}
use Rattle.cf_prepare.specs.Refusals.{set_of}
use Rattle.cf_lane.specs.Calling.{granted_in}
use Rattle.cf_book.specs.Granting.{IsOpenCall}
use Rattle.cf_book.specs.Record.{world_left}
use Rattle.cf_face.specs.declared.words.Task.TheVariants as task
use Rattle.cf_workers.specs.Driving.{CallAt}
use Rattle.cf_workers.specs.Growing.{Extends}
use Rattle.cf_workers.specs.Intending.{HasIntent}
use Rattle.cf_top.specs.Tasks.{task_words}

-- the stack of this name kept the change set under this number in the record of the disk
abbrev pub IsKeptOn : {D : Type 0} → DiskGhosts D → D → List ℕ → ℕ → KeptSet → Type 0
IsKeptOn g disk name number set =
    (es : List Entry) × (record_of (g.seen disk) ≡ Ok es) × (set_of number (known_stack name (world_left es)) ≡ Some set)

-- the call is written down and open, and its operation goes forward: it has not turned back, and does not clean up yet
abbrev pub IsOpenForward : List Entry → CallAt → Type 0
IsOpenForward es c = HasIntent es c × (o : IsOpenCall es c.lane (granted_in c.told)) × IsTrue (goes_forward o.stack.status)

-- so it was by some first entries of these
abbrev pub WasOpenForward : List Entry → CallAt → Type 0
WasOpenForward es c = (first : List Entry) × Extends first es × IsOpenForward first c

-- The words execute a change set: a call of these entries that its operation made as it went forward is told by the row of its path in
-- that set. An added resource is created, a modified one updated in place or created anew as the row says, and nothing is asked for at a
-- path that is removed or has no row.
abbrev pub IsToldBySet : {D : Type 0} → DiskGhosts D → D → List (List ℕ) → CallAt → List Entry → Type 0
IsToldBySet g disk words c es =
    (name : List ℕ) (number : ℕ) (set : KeptSet) → task_words words ≡ Some (name, task.Execute number) → IsKeptOn g disk name number set
    → WasOpenForward es c → IsTold (row_at c.path set.rows) c.told.request
