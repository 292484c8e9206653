-- When the calls of a journal fail (this project's own).
use Rattle.std.specs.Prelude.{◌≡◌, ◌+◌, ◌<◌, ◌≤◌, ℕ, Bool, true, List, IsTrue, Result, Ok, Err}
use Rattle.cf_tree.specs.Counts.{HasRisen}
use Rattle.cf_entry.specs.declared.entry.Entry.{Entry}
use Rattle.cf_journal.specs.declared.faults.AppendFault.{AppendFault}
use Rattle.cf_journal.specs.declared.faults.AppendFault.TheVariants as append
use Rattle.cf_journal.specs.declared.faults.RecoverFault.{RecoverFault}
use Rattle.cf_journal.specs.declared.faults.RecoverFault.TheVariants as recover
use Rattle.cf_journal.specs.Frames.{Reading}
use Rattle.cf_journal.specs.Record.{record_of}

-- An append is Full exactly where the journal's length and what the entry needs are more than the room. Else it fails only where the
-- disk's count of faults rose.
abbrev pub HasAppendCause : {T : Type 0} → ℕ → ℕ → ℕ → ℕ → ℕ → Result T AppendFault → Type 0
HasAppendCause length need room before after (Ok x) = length + need ≤ room
HasAppendCause length need room before after (Err (append.Full l n r)) = (room < length + need) × (l ≡ length) × (n ≡ need) × (r ≡ room)
HasAppendCause length need room before after (Err append.DiskFault) = (length + need ≤ room) × HasRisen before after

-- After a fault of an append: P where there was no room, and after a fault of the disk the journal is broken.
abbrev pub IsAfterFault : Type 0 → Bool → AppendFault → Type 0
IsAfterFault P broken (append.Full length need room) = P
IsAfterFault P broken append.DiskFault = broken ≡ true

-- no journal stands on these bytes of a disk that tells them, or its count of faults rose, or memory was not there
abbrev pub HasRecoverCause : Bool → List ℕ → ℕ → ℕ → RecoverFault → Type 0
HasRecoverCause tells bytes before after (recover.NotAJournal offset) = IsTrue tells → record_of bytes ≡ Err offset
HasRecoverCause tells bytes before after recover.DiskFault = HasRisen before after
HasRecoverCause tells bytes before after recover.NoMemory = Unit {0}

-- how reading frames ends: as it is said, unless memory runs out
abbrev pub FramesEnd : Reading Entry → Result (List Entry × ℕ) RecoverFault → Type 0
FramesEnd read (Ok found) = read ≡ Ok found
FramesEnd read (Err (recover.NotAJournal offset)) = read ≡ Err offset
FramesEnd read (Err recover.DiskFault) = ⊥
FramesEnd read (Err recover.NoMemory) = Unit {0}

-- reading a disk fails only where its count of faults rose, or memory was not there
abbrev pub HasReadCause : ℕ → ℕ → RecoverFault → Type 0
HasReadCause before after (recover.NotAJournal offset) = ⊥
HasReadCause before after recover.DiskFault = HasRisen before after
HasReadCause before after recover.NoMemory = Unit {0}

-- P, where the disk holds no journal
abbrev pub IfRefused : Type 0 → RecoverFault → Type 0
IfRefused P (recover.NotAJournal offset) = P
IfRefused P recover.DiskFault = Unit {0}
IfRefused P recover.NoMemory = Unit {0}
