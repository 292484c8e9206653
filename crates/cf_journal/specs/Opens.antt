-- How opening the journal of a disk ends (this project's own).
use Rattle.std.specs.Prelude.{◌≡◌, false, List, Result, Ok, Err}
use Rattle.cf_entry.specs.declared.entry.Entry.{Entry}
use Rattle.cf_journal.specs.Frames.{Reading}
use Rattle.cf_journal.specs.Record.{journal_length, is_broken}
use Rattle.cf_journal.specs.declared.journal.Journal.{Journal}
use Rattle.cf_journal.specs.declared.faults.RecoverFault.{RecoverFault}
use Rattle.cf_journal.specs.declared.faults.RecoverFault.TheVariants as recover

-- with the entries and the length that are read, or the offset, unless memory runs out
abbrev pub OpensAs : Reading Entry → Result (Journal × List Entry) RecoverFault → Type 0
OpensAs read (Ok found) = (read ≡ Ok (found.1, journal_length found.0)) × (is_broken found.0 ≡ false)
OpensAs read (Err (recover.NotAJournal offset)) = read ≡ Err offset
OpensAs read (Err recover.DiskFault) = ⊥
OpensAs read (Err recover.NoMemory) = Unit {0}
