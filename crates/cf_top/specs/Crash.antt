-- What a crash may leave of a journal, during a command and after it (this project's own format, docs/JOURNAL.md).
use Rattle.std.specs.Prelude.{◌≡◌, ◌⊎◌, ℕ, Bool, List, Option, None, Ok, IsTrue, ⊤}
use Rattle.cf_disk.specs.Disk.{Only}
use Rattle.cf_entry.specs.declared.entry.Entry.{Entry}
use Rattle.cf_journal.specs.Record.{IsOldOrKept, KeepsRecord, record_of}
use Rattle.cf_book.specs.Record.{HasKnown}
use Rattle.cf_workers.specs.Growing.{Extends}
use Rattle.cf_face.specs.declared.exit.Exit.{Exit}
use Rattle.cf_face.specs.declared.exit.Exit.TheVariants as exit

-- after these answers an entry may be in doubt: the disk failed, or it may have failed and that could not be printed
abbrev pub MayDoubt : Exit → Type 0
MayDoubt exit.DiskFault = Unit {0}
MayDoubt exit.SinkFault = Unit {0}
MayDoubt exit.NoMemory = Unit {0}
MayDoubt _ = ⊥

-- The journal was opened: behind its old entries stand those that were acknowledged, and one more may be in doubt. What a read gives, and
-- each file that a crash may leave, has what was acknowledged, with that one or without it.
pub record Survives (bytes bytes' : List ℕ) (may_leave : List ℕ → Type 0) (e : Exit) : Type 0 where
  pub old : List Entry
  pub known : List Entry
  pub doubt : Option Entry
  pub was : record_of bytes ≡ Ok old
  pub grown : Extends old known
  pub certain : MayDoubt e ⊎ (doubt ≡ None)
  pub stays : HasKnown known doubt bytes'
  pub each : (file : List ℕ) → may_leave file → HasKnown known doubt file

-- No entry was written: a crash leaves what it might have left before, or the same record.
pub record WroteNothing (bytes bytes' : List ℕ) (before may_leave : List ℕ → Type 0) : Type 0 where
  pub kept : KeepsRecord bytes bytes'
  pub each : (file : List ℕ) → may_leave file → IsOldOrKept before bytes file

-- what a crash may leave after a command with this answer
abbrev pub CrashLeaves : List ℕ → List ℕ → (List ℕ → Type 0) → (List ℕ → Type 0) → Exit → Type 0
CrashLeaves bytes bytes' before may_leave e = WroteNothing bytes bytes' before may_leave ⊎ Survives bytes bytes' may_leave e

-- after an operation that ended, a crash leaves just what a read gives
abbrev pub Lasts : Bool → List ℕ → (List ℕ → Type 0) → Type 0
Lasts tells bytes may_leave = IsTrue tells → Only bytes may_leave

abbrev pub LastsWhereOver : Exit → Bool → List ℕ → (List ℕ → Type 0) → Type 0
LastsWhereOver exit.Done tells bytes may_leave = Lasts tells bytes may_leave
LastsWhereOver (exit.RolledBack cause) tells bytes may_leave = Lasts tells bytes may_leave
LastsWhereOver (exit.Failed blamed) tells bytes may_leave = Lasts tells bytes may_leave
LastsWhereOver _ tells bytes may_leave = ⊤
