-- What opening the journal of a disk comes to (this project's own format, docs/JOURNAL.md).
use Rattle.std.specs.Prelude.{◌≡◌, ℕ, Bool, List, Ok, Err, IsTrue, ⊤}
use Rattle.cf_tree.specs.Counts.{HasRisen}
use Rattle.cf_entry.specs.declared.entry.Entry.{Entry}
use Rattle.cf_journal.specs.Record.{record_of}
use Rattle.cf_book.specs.declared.refused.EnterFault.{EnterFault}
use Rattle.cf_book.specs.declared.refused.EnterFault.TheVariants as fault
use Rattle.cf_face.specs.declared.exit.Exit.{Exit}
use Rattle.cf_face.specs.declared.exit.Exit.TheVariants as exit

-- a disk that tells its bytes has just these entries
abbrev pub Holds : Bool → List ℕ → List Entry → Type 0
Holds tells bytes es = IsTrue tells → record_of bytes ≡ Ok es

-- why no journal was opened: there is none on these bytes of a disk that tells them; its count of faults rose; or memory was not there
abbrev pub HasOpenCause : Bool → List ℕ → ℕ → ℕ → Exit → Type 0
HasOpenCause tells bytes faults faults' (exit.NotAJournal offset) = IsTrue tells → record_of bytes ≡ Err offset
HasOpenCause tells bytes faults faults' exit.DiskFault = HasRisen faults faults'
HasOpenCause tells bytes faults faults' exit.NoMemory = ⊤
HasOpenCause tells bytes faults faults' _ = ⊥

-- the exit of a book that was not entered
abbrev pub enter_exit : EnterFault → Exit
enter_exit (fault.NotAJournal offset) = exit.NotAJournal offset
enter_exit fault.DiskFault = exit.DiskFault
enter_exit (fault.LaneTwice name) = exit.LaneTwice name
enter_exit (fault.LaneMissing name) = exit.LaneMissing name
enter_exit (fault.Full length need room) = exit.Full length need room
enter_exit (fault.LaneAhead name fence epoch) = exit.LaneAhead name fence epoch
enter_exit (fault.LaneFault name) = exit.LaneFault name
enter_exit fault.NoMemory = exit.NoMemory
