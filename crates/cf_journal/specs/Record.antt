-- The record of a disk: the entries of its journal (this project's own format, docs/JOURNAL.md).
use Rattle.std.specs.Prelude.{◌≡◌, ◌⊎◌, ◌≤◌, ◌^◌, ℕ, Bool, false, List, [], ◌∷◌, ◌++◌, drop, Result, Ok, Err, IsOk, IsTrue}
use Rattle.cf_disk.specs.Disk.{Only}
use Rattle.cf_entry.specs.EntryReading.{entry_of}
use Rattle.cf_entry.specs.declared.entry.Entry.{Entry}
use Rattle.cf_journal.specs.Frames.{Reading, reading_by, length_in, record_in}
use Rattle.cf_journal.specs.Head.{made}
use Rattle.cf_journal.specs.declared.journal.Journal.{Journal}

-- what these bytes of a disk say
abbrev pub reading_of : List ℕ → Reading Entry
reading_of bytes = reading_by entry_of bytes

-- the entries, or the offset at which no journal stands
abbrev pub record_of : List ℕ → Result (List Entry) ℕ
record_of bytes = record_in (reading_of bytes)

-- the journal's length: the offset of its last gate plus 1
abbrev pub length_of : List ℕ → ℕ
length_of bytes = length_in (reading_of bytes)

-- a record with one more entry
abbrev pub one_more : Result (List Entry) ℕ → Entry → Result (List Entry) ℕ
one_more (Ok es) e = Ok (es ++ e ∷ [])
one_more (Err offset) e = Err offset

-- the bytes have this record, or that with one more entry
abbrev pub IsBeforeOrAfter : Result (List Entry) ℕ → Entry → List ℕ → Type 0
IsBeforeOrAfter before e bytes = (record_of bytes ≡ before) ⊎ (record_of bytes ≡ one_more before e)

-- The record is the same; and so are the bytes, unless a journal without entries was there.
pub record KeepsRecord (old new : List ℕ) : Type 0 where
  pub same : record_of new ≡ record_of old
  pub bytes : (record_of old ≡ Ok []) ⊎ (new ≡ old)

-- what a crash might have left before, or bytes that keep the record
abbrev pub IsOldOrKept : (List ℕ → Type 0) → List ℕ → List ℕ → Type 0
IsOldOrKept may_leave old bytes = may_leave bytes ⊎ KeepsRecord old bytes

abbrev pub journal_length : Journal → ℕ
journal_length j = j.length

-- how long an entry it has the memory for
abbrev pub spare_of : Journal → ℕ
spare_of j = j.spare

-- whether an append of it failed by the disk
abbrev pub is_broken : Journal → Bool
is_broken j = j.broken

-- the journal stands for this disk: no append of it failed, and the disk holds one that is made, of this length, all of it there after any
-- crash
pub record Stands {D : Type 0} (tells : Bool) (seen : D → List ℕ) (may_leave : D → List ℕ → Type 0) (room_of : D → ℕ) (journal : Journal)
    (disk : D) : Type 0 where
  pub sound : is_broken journal ≡ false
  pub is_made : IsTrue tells → seen disk ≡ made (drop 9 (seen disk))
  pub is_read : IsTrue tells → IsOk (record_of (seen disk))
  pub length_is : IsTrue tells → length_of (seen disk) ≡ journal_length journal
  pub durable : IsTrue tells → Only (seen disk) (may_leave disk)
  pub room : room_of disk ≤ 2 ^ 32
