-- What is known of the record of a disk, and what a crash may leave of it (this project's own format, docs/JOURNAL.md).
use Rattle.std.specs.Prelude.{◌≡◌, ◌⊎◌, ℕ, ◌+◌, ◌<◌, ◌≤◌, Bool, List, [], ◌∷◌, ◌++◌, length, Option, Some, None, Result, Ok, Err, IsTrue}
use Rattle.cf_tree.specs.SizeOf.{capped}
use Rattle.cf_tree.specs.Counts.{HasRisen}
use Rattle.cf_disk.specs.Disk.{LeavesOnly}
use Rattle.cf_disk.specs.declared.disk.Disk.{Ghosts}
use Rattle.cf_entry.specs.Entry.{spelling_of}
use Rattle.cf_entry.specs.declared.entry.Entry.{Entry}
use Rattle.cf_effect.specs.World.{World, empty_world}
use Rattle.cf_effect.specs.Fold.{fold_of}
use Rattle.cf_journal.specs.Record.{record_of, length_of}
use Rattle.cf_book.specs.State.{BookNow}
use Rattle.cf_book.specs.declared.stop.StopFault.{StopFault}
use Rattle.cf_book.specs.declared.stop.StopFault.TheVariants as stop

-- the world that entries leave
abbrev pub world_left : List Entry → World
world_left es = fold_of empty_world es

-- the entries, and behind them the one that is in doubt, where one is
abbrev pub with_doubt : List Entry → Option Entry → List Entry
with_doubt es None = es
with_doubt es (Some e) = es ++ e ∷ []

-- these bytes have the entries, with the one in doubt or without it
abbrev pub HasKnown : List Entry → Option Entry → List ℕ → Type 0
HasKnown es doubt bytes = (record_of bytes ≡ Ok es) ⊎ (record_of bytes ≡ Ok (with_doubt es doubt))

-- What the book knows of its disk: its bytes, and all that a crash now may leave of them, have the entries that were acknowledged, with
-- the one in doubt or without it.
pub record IsKnown {D : Type 0} (g : Ghosts D) (disk : D) (es : List Entry) (doubt : Option Entry) : Type 0 where
  pub now : IsTrue g.tells → HasKnown es doubt (g.seen disk)
  pub each : IsTrue g.tells → (bytes : List ℕ) → g.may_leave disk bytes → HasKnown es doubt bytes

abbrev pub KnowsDisk : {D : Type 0} → Ghosts D → BookNow D → Type 0
KnowsDisk g b = IsKnown g b.disk b.entries b.doubt

-- how many bytes an entry takes beyond the journal's length
abbrev pub need_of : Entry → ℕ
need_of e = capped (length (spelling_of e)) + 5

-- the count of faults never falls, and it rose
abbrev pub HasFaulted : ℕ → ℕ → Type 0
HasFaulted before after = (before ≤ after) × HasRisen before after

-- the journal's length and the bytes that the entry takes are within the disk's room
abbrev pub Fits : {D : Type 0} → Ghosts D → D → Entry → Type 0
Fits g disk e = IsTrue g.tells → length_of (g.seen disk) + need_of e ≤ g.room_of disk

-- Why an entry was not appended: there is no room for it and the disk is as it was; or the disk failed, and may have it.
abbrev pub HasStopped : {D : Type 0} → Ghosts D → D → D → Option Entry → Option Entry → Entry → StopFault → Type 0
HasStopped g old new doubt doubt' e (stop.Full l need room) =
    (new ≡ old) × (doubt' ≡ doubt) × (IsTrue g.tells → length_of (g.seen old) ≡ l) × (need ≡ need_of e) × (room ≡ g.room_of old)
    × (room < l + need)
HasStopped g old new doubt doubt' e stop.DiskFault = HasFaulted (g.count old) (g.count new) × (doubt' ≡ Some e) × Fits g old e
HasStopped g old new doubt doubt' e _ = ⊥

-- An entry was appended, or not: the entries that are acknowledged are one more, or those that they were.
abbrev pub AppendsTo : {D T : Type 0} → Ghosts D → D → D → List Entry → List Entry → Option Entry → Option Entry → Entry
    → Result T StopFault → Type 0
AppendsTo g old new es es' doubt doubt' e (Ok x) = (es' ≡ es ++ e ∷ []) × (doubt' ≡ doubt) × Fits g old e
AppendsTo g old new es es' doubt doubt' e (Err f) = (es' ≡ es) × HasStopped g old new doubt doubt' e f

abbrev pub Appends : {D T : Type 0} → Ghosts D → BookNow D → BookNow D → Entry → Result T StopFault → Type 0
Appends g old new e result = AppendsTo g old.disk new.disk old.entries new.entries old.doubt new.doubt e result

-- The same of an entry for which memory is taken first: where that is not there, nothing is written.
abbrev pub WritesTo : {D T : Type 0} → Ghosts D → D → D → List Entry → List Entry → Option Entry → Option Entry → Entry
    → Result T StopFault → Type 0
WritesTo g old new es es' doubt doubt' e (Err stop.NoMemory) = (new ≡ old) × (es' ≡ es) × (doubt' ≡ doubt)
WritesTo g old new es es' doubt doubt' e result = AppendsTo g old new es es' doubt doubt' e result

abbrev pub Writes : {D T : Type 0} → Ghosts D → BookNow D → BookNow D → Entry → Result T StopFault → Type 0
Writes g old new e result = WritesTo g old.disk new.disk old.entries new.entries old.doubt new.doubt e result

-- the room of a disk stays, and the count of its faults never falls
pub record KeepsRoom {D : Type 0} (g : Ghosts D) (old new : D) : Type 0 where
  pub room : g.room_of new ≡ g.room_of old
  pub count : g.count old ≤ g.count new

abbrev pub KeepsDisk : {D : Type 0} → Ghosts D → BookNow D → BookNow D → Type 0
KeepsDisk g old new = KeepsRoom g old.disk new.disk

-- nothing was appended, and the disk is as it was
pub record IsUnwritten {D : Type 0} (old new : BookNow D) : Type 0 where
  pub disk : new.disk ≡ old.disk
  pub entries : new.entries ≡ old.entries
  pub doubt : new.doubt ≡ old.doubt

-- At each moment of a call a crash leaves the entries that were acknowledged before it, or those with the one more that it appends.
abbrev pub LeavesOneMore : List Entry → List Entry → Option Entry → List ℕ → Type 0
LeavesOneMore es es' doubt bytes = (record_of bytes ≡ Ok es) ⊎ ((record_of bytes ≡ Ok es') ⊎ (record_of bytes ≡ Ok (with_doubt es' doubt)))

abbrev pub KeepsMoments : {D : Type 0} → Ghosts D → BookNow D → BookNow D → Type 0
KeepsMoments g old new =
    IsTrue g.tells → LeavesOnly g.moment g.left_since old.disk new.disk (LeavesOneMore old.entries new.entries new.doubt)
